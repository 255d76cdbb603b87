pub mod Attributes
pub mod BlockHtml
pub mod InlineHtml
pub mod InlineWriting
pub mod Limits
pub mod ListEnds
pub mod TableHtml
pub mod WrittenUnits
