pub mod Asker
pub mod Rounds
pub mod Bound
pub mod Options
