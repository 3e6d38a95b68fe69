pub mod Counted
pub mod Generate
pub mod TextStreams
