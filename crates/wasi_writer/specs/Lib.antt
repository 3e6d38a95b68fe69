pub mod Names
pub mod Knows
pub mod Keeps
pub mod Answers
pub mod Worked
pub mod Stream
