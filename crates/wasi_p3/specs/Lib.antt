pub mod Stops
pub mod Lines
pub mod Listening
pub mod Tcp
pub mod Streams
pub mod Udp
pub mod Lookup
