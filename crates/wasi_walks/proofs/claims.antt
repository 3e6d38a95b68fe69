-- The base law: numbers and network sockets are claimed once, and are of older lines.
pub mod Polls
pub mod Law
pub mod Lines
