-- How much one poll does at most.
pub mod Most
pub mod Receives
pub mod Accepts
pub mod Reached
