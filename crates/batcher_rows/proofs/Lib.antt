pub mod Shuffling
pub mod Holding
pub mod Blocking
