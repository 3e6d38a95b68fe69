-- Each operation asks its checks first.
pub mod Ordered
pub mod Weights
pub mod Rooms
pub mod Polls
pub mod Law
