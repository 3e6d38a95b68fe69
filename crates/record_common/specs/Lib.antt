pub mod Stops
pub mod Names
pub mod Binding
pub mod Sides
