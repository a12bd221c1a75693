pub mod Round
pub mod Slot
