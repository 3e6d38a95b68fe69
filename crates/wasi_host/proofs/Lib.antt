pub mod FoundMaps
pub mod Outcomes
pub mod PollLists
pub mod WatchedLooks
