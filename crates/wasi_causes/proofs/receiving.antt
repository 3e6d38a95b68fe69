-- What an incoming stream received is what was handed out on its handle, and then what waits.
pub mod Unmarked
pub mod Along
pub mod Polled
pub mod Named
pub mod Older
pub mod Streams
pub mod Polls
pub mod Law
pub mod Handed
pub mod Lines
pub mod Replies
pub mod Runs
pub mod Apart
pub mod Examples
pub mod Names
