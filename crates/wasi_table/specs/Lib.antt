pub mod Keys
pub mod Lends
pub mod Slots
pub mod Table
