pub mod Votes
pub mod Kinds
pub mod Rows
pub mod Staying
pub mod Permutations
