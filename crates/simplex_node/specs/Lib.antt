pub mod Living
pub mod Running
pub mod Pausing
pub mod Stepping
