pub mod Outlooks
pub mod Records
pub mod Jobs
pub mod Calls
pub mod Steps
