pub mod Filed
pub mod Lines
pub mod Placing
pub mod Words
