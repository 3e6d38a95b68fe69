pub mod Words
pub mod Run
pub mod Ends
pub mod Rules
