pub mod Copying
pub mod Pumped
