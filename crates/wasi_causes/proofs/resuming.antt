-- Polls of the pending call: what they give.
pub mod Rows
pub mod Listens
