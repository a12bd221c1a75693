pub mod Places
pub mod Telling
pub mod Values
