pub mod Backers
pub mod Keeping
pub mod Searching
