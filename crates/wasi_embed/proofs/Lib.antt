pub mod AsBox
pub mod Steps
