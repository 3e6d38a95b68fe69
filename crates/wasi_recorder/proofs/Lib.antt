mod Fronts
pub mod Comparing
pub mod Outcomes
mod ReplayCauses
