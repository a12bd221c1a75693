pub mod Ascending
pub mod Bounds
pub mod Failing
pub mod Signatures
