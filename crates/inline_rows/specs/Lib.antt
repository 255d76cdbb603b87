pub mod Opened
pub mod Reads
