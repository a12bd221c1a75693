pub mod Queries
pub mod Admission
pub mod Rounds
pub mod Run
