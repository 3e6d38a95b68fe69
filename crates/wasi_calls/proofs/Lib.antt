pub mod CallSteps
pub mod CallWords
pub mod Contents
pub mod Stretches
