pub mod Words
pub mod Following
