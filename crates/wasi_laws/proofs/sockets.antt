-- What is asked of a socket is asked while it is open.
pub mod Opened
pub mod Polls
pub mod Law
pub mod Examples
