pub mod State
pub mod Did
