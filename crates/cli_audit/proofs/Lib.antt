pub mod Numerals
pub mod Counts
pub mod Implied
