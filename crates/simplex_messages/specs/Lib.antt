pub mod ConflictingVotes
pub mod NullifyFinalize
pub mod VoteParts
pub mod Vote
pub mod Activity
pub mod Guilt
pub mod AttributableMap
pub mod Slots
