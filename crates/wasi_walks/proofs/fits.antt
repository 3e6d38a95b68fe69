-- What a socket connects by is a connect, what a listener accepts by is an accept, and what is pending as a bind is a
-- bind.
pub mod Records
pub mod Polls
pub mod UdpPolls
pub mod DatagramPolls
pub mod TcpFits
pub mod UdpFits
pub mod Besides
pub mod Datagrams
pub mod DatagramFacts
pub mod DatagramLaw
pub mod ClosedCalls
pub mod Law
pub mod Lines
