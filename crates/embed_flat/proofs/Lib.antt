mod Examples
pub mod Puts
pub mod Blocks
pub mod Done
pub mod InPlaces
pub mod Replies
pub mod LiftedBack
pub mod Outside
