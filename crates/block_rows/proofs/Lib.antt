mod ContainerRows
mod DefinitionRows
mod LeafRows
mod ListRows
mod NestingRows
pub mod ReadText
mod SummaryRows
mod TableRows
mod UnitRows
