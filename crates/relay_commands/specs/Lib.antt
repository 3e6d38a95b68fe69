pub mod Words
pub mod PairLines
pub mod Status
pub mod Ends
