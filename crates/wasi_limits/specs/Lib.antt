pub mod Alike
pub mod Contexts
pub mod Runs
