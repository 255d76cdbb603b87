pub mod DelimiterRun
pub mod Flanks
pub mod Neighbours
pub mod Matches
pub mod OpenersBottom
pub mod Pairings
