pub mod Fault
pub mod Run
pub mod WriteRecord
pub mod WriteState
pub mod ReadRecord
pub mod ReadState
