pub mod Words
pub mod Log
pub mod Record
pub mod Replay
pub mod Draw
pub mod Ends
pub mod Writing
