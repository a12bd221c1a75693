pub mod Counting
pub mod Committee
