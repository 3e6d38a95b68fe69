pub mod Lines
pub mod Ran
pub mod Script
pub mod Causes
pub mod Headline
