pub mod Searches
pub mod Unlogged
