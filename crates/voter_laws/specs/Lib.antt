pub mod Alone
pub mod StaysKnown
pub mod Matching
pub mod Missing
pub mod Placing
pub mod Recording
pub mod Steps
pub mod Timeouts
