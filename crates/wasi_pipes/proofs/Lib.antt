pub mod Faults
pub mod Runs
pub mod WriteStands
pub mod WriteLaws
pub mod ReadStands
pub mod ReadLaws
