pub mod LookupHandles
pub mod Resolves
