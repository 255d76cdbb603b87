pub mod CodeLanguage
pub mod ParagraphText
pub mod Tables
pub mod ParagraphDefinitions
pub mod DefinedLinks
