pub mod Io
pub mod Written
pub mod Memory
pub mod Standard
