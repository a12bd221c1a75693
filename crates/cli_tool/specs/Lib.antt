pub mod ToolAnswers
pub mod Command
pub mod Decoding
pub mod Lines
pub mod Parts
