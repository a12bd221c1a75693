pub mod Admitting
pub mod Single
pub mod Reaching
pub mod Summing
pub mod Ending
pub mod Turning
pub mod Founding
