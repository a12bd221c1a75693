pub mod Answers
pub mod Asking
pub mod RepairHistory
pub mod Earlier
pub mod Gaps
pub mod Keeps
pub mod Outstanding
