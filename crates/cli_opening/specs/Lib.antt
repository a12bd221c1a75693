pub mod Halves
pub mod Looking
pub mod Members
pub mod Saying
