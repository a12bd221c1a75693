pub mod Command
pub mod Lines
pub mod Running
pub mod Words
