pub mod DueRefusals
pub mod NumberValues
pub mod ToolApps
