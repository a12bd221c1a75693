pub mod Left
pub mod Among
pub mod Served
pub mod Statuses
pub mod Streams
