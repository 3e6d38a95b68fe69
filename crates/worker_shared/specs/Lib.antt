pub mod Relay
pub mod Ends
