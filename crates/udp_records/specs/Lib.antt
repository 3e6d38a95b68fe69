pub mod Rows
pub mod Udp
pub mod Datagrams
pub mod Receiving
