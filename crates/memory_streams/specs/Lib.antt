pub mod Pipes
pub mod Plain
