pub mod Works
pub mod Handed
pub mod Finished
