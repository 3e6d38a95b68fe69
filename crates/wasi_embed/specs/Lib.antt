pub mod Told
pub mod HasDid
pub mod Held
pub mod Stepped
pub mod HostDid
