pub mod NameLookups
