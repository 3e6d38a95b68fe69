pub mod Status
pub mod Scenario
pub mod Choices
pub mod Reading
pub mod Planned
