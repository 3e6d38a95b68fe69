pub mod NameLookup
