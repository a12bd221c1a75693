pub mod Example
pub mod Plain
pub mod Contradicted
pub mod PlainContradicted
pub mod Based
pub mod Finalized
pub mod PlainFinalized
