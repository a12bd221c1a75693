pub mod Held
pub mod Hosting
pub mod Pairs
pub mod Serving
pub mod Sessions
pub mod Statuses
