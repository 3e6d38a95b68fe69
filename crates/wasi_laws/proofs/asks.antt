-- What lines ask, single asks at a time: what a law has to say of them, and no more.
pub mod Fronts
pub mod Trees
pub mod Single
