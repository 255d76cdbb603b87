pub mod Numbers
pub mod ToolWords
pub mod WordRefusals
