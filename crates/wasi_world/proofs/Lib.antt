pub mod Walks
pub mod Allowed
pub mod Answers
pub mod Made
pub mod Polls
