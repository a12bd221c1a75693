pub mod Building
pub mod Checking
pub mod Faults
pub mod Program
