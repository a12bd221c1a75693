pub mod Cast
pub mod Kept
pub mod Tally
pub mod Choices
pub mod Survey
pub mod Audit
pub mod Accountability
pub mod Counted
