-- Polls of operations: how each comes out and ends.
pub mod Accepts
pub mod Marks
pub mod Polls
pub mod Checks
pub mod ConnectEnds
pub mod ConnectPolls
pub mod UdpConnectEnds
pub mod P3DatagramEnds
pub mod DatagramPolls
pub mod PendingListens
