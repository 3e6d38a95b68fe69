pub mod Stages
pub mod Knows
pub mod Keeps
pub mod Names
pub mod Answers
pub mod Worked
pub mod Stream
pub mod Owned
