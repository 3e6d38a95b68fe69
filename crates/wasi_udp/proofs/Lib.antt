pub mod Creates
pub mod Binds
pub mod Connects
pub mod LocalAddresses
pub mod Disconnects
pub mod Sends
pub mod Receives
pub mod Lates
pub mod Givens
mod Cases
