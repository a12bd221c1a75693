mod EventSize
pub mod Answered
pub mod Streamed
pub mod TakenOff
pub mod Texts
mod Reading
pub mod Taking
pub mod Written
