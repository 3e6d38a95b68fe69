pub mod CreatedNames
pub mod DatagramStores
pub mod SocketDatagrams
pub mod UdpBinds
pub mod UdpLeft
pub mod UdpMakes
