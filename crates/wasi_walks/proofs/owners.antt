-- Each record has one handle at most, what else is of it is under that, and none is of a record that is given back.
pub mod Kinds
pub mod Names
pub mod Owned
pub mod Records
pub mod NewHandles
pub mod Law
