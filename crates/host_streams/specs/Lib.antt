pub mod Blocking
pub mod PlainStreams
pub mod StreamCalls
pub mod StreamEnds
