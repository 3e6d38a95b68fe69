mod Leads
mod Orders
mod Outs
mod Puts
mod Stays
pub mod Tables
mod Writes
