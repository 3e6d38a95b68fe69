-- Tables of outcomes: how a tree meets one, the routes that steps share, each step, and what is read off.
pub mod Examples
pub mod Excluded
pub mod Meets
pub mod Parts
pub mod Routes
pub mod Steps
