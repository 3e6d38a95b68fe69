-- Bytes of connections that are read: trees that ask for none, and what the lines of a run were told.
pub mod Unread
pub mod Sockets
pub mod Handles
pub mod Steps
pub mod Polls
pub mod Heard
pub mod Reads
