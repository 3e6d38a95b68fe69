pub mod Hosts
pub mod SideCounts
pub mod OptionSides
pub mod ConnectCounts
