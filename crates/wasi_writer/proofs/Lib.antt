pub mod Works
pub mod Ends
pub mod Writes
