pub mod Cancel
pub mod FoundMap
pub mod HandleDrops
pub mod Pending
pub mod Pollables
pub mod Polling
pub mod Turns
