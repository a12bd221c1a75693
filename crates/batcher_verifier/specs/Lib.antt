pub mod Votes
pub mod History
pub mod Lawful
pub mod Keeping
pub mod ConstructionResult
pub mod Quorums
pub mod Spending
