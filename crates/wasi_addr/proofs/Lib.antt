pub mod Conversions
pub mod SameAddresses
