pub mod Causes
pub mod Front
pub mod Outcome
pub mod Replays
