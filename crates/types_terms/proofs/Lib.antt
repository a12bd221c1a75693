pub mod Exactly
pub mod Windows
pub mod Orders
pub mod Shuffles
pub mod Turning
