pub mod Slots
pub mod Refusals
pub mod Settings
pub mod Sessions
pub mod Answers
pub mod Names
