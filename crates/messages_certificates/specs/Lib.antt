pub mod ProposalVote
pub mod Nullify
pub mod StandsBeside
pub mod Assembly
pub mod ProposalCertificate
pub mod Nullification
pub mod Certificate
pub mod Artifact
