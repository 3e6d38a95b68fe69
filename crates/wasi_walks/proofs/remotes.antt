-- The law of records: the remote address that a UDP socket keeps is what the network reported last.
pub mod Polls
pub mod Along
pub mod ConnectPolls
pub mod State
pub mod Held
pub mod Law
