mod Forgets
pub mod Jobs
mod Keying
mod Orders
mod Reading
mod Rising
