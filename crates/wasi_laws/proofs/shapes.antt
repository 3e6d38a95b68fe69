-- What holds of records between the asks.
pub mod Shape
pub mod Law
