-- What a network socket takes is what it is let write.
pub mod Agreeing
pub mod Spent
pub mod Taken
pub mod Law
pub mod Lets
pub mod Calls
pub mod Ends
pub mod Splices
pub mod Blocking
pub mod Checked
pub mod Lines
pub mod Steps
pub mod Runs
pub mod Replied
pub mod Marked
