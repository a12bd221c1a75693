pub mod Faults
pub mod Keys
pub mod Refusing
pub mod Saying
