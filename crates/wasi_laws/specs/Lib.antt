pub mod Order
pub mod Writes
pub mod Permitted
pub mod Opened
pub mod Bounds
pub mod Receivers
pub mod Limits
