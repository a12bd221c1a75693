pub mod Barring
pub mod Heads
pub mod Nothing
