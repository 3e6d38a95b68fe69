mod AskedLooks
mod Sides
mod Counted
mod Results
mod Owned
mod Keeping
