pub mod Memory
pub mod Checked
