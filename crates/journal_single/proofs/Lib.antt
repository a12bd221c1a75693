pub mod Stages
pub mod Repairing
pub mod Reopened
pub mod Held
pub mod Histories
