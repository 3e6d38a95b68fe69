-- The steps of name lookups.
pub mod Begins
pub mod Hands
pub mod Turns
pub mod P3Resolves
pub mod P3ResolvePolls
