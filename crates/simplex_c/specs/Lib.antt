pub mod Answers
pub mod Light
pub mod Settings
