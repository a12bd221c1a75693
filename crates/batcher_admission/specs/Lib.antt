pub mod Evidence
pub mod Blocking
