pub mod AcceptedRecords
pub mod Binds
pub mod Cancels
pub mod ConnectionEnds
pub mod Connects
pub mod EndPolls
pub mod Listens
pub mod TcpHandles
