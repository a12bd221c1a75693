pub mod Signed
pub mod Terms
pub mod Sorting
