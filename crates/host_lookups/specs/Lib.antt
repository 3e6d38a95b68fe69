pub mod NameLookupCalls
pub mod Resolves
