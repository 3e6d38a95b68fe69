pub mod Known
pub mod Queued
pub mod Armed
pub mod Scripted
pub mod Scenario
