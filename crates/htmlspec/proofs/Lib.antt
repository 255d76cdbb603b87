pub mod WrittenEvents
pub mod WrittenTrees
