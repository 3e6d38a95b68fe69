-- What the writers of each context hold stays within its limit.
pub mod Held
pub mod Sums
pub mod Law
pub mod Kept
