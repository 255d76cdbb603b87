pub mod EdgeView
pub mod TreeEdges
