pub mod Certifying
pub mod Chain
