pub mod Bases
pub mod BesidePlaces
pub mod Called
pub mod GivenBack
pub mod JobLists
pub mod KeptLimits
pub mod KnownSides
pub mod LiveHandles
