pub mod HostError
pub mod StreamError
pub mod StreamStop
pub mod Streams
