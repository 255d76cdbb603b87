pub mod Alike
pub mod CellTags
pub mod InlineWriter
pub mod KeptItems
pub mod LikeLists
pub mod ListUnits
pub mod UnitTexts
