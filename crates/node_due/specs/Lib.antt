pub mod Acting
pub mod Ahead
pub mod NoneDue
pub mod ActsBehind
