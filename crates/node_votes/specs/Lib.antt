pub mod Standing
pub mod KeepsVotes
