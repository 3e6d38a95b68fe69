pub mod Commands
pub mod Live
pub mod Recorded
pub mod Ruled
