pub mod Memory
pub mod Abi
pub mod Wit
pub mod Fields
pub mod Answers
pub mod Values
pub mod Signatures
pub mod Flat
