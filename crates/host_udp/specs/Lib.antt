pub mod DatagramCalls
pub mod SocketDatagrams
pub mod UdpBinds
pub mod UdpCalls
pub mod UdpCancels
pub mod UdpConnects
pub mod UdpCreates
