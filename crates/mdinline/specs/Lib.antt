pub mod SpanKinds
pub mod TreeView
pub mod held
