-- The steps of the datagram streams of UDP sockets.
pub mod Routes
pub mod Makes
pub mod Kept
pub mod Connected
pub mod Sends
pub mod Receives
pub mod Streams
pub mod From
pub mod Bounds
pub mod Unsendable
pub mod SendAsks
pub mod SendRefusals
pub mod ReceiveAsks
