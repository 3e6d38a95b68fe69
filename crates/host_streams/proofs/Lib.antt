pub mod Blocks
pub mod Pipes
pub mod StreamCalls
pub mod WriteRests
