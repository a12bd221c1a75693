pub mod Network
pub mod Agreement
pub mod Accountability
