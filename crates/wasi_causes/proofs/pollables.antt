-- Waits for pollables: what a look finds and keeps, the looks of a wait in turn, the steps, and polls of them.
pub mod Looks
pub mod InTurn
pub mod Waits
pub mod Steps
pub mod Polls
pub mod Live
pub mod AsReady
pub mod Places
pub mod Unnamed
pub mod NoMore
pub mod Begins
pub mod Quiet
pub mod Leaves
