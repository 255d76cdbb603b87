pub mod AsBox
pub mod BodyWalks
pub mod Called
