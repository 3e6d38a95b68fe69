-- An operation receives on one network socket alone.
pub mod Going
pub mod Law
pub mod Examples
