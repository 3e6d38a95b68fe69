pub mod Fields
pub mod Written
pub mod EntryText
pub mod Lines
