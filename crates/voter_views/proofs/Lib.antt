pub mod Advancing
pub mod Choices
pub mod Covering
pub mod Entering
pub mod Following
pub mod Heirs
pub mod Learning
pub mod Pruning
pub mod Replaying
mod Showing
pub mod Stepping
pub mod Uncovering
mod Walking
