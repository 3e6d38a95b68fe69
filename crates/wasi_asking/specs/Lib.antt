pub mod Asks
pub mod Asking
