pub mod Held
pub mod History
pub mod Known
pub mod Leaders
pub mod Leading
pub mod Past
pub mod Pasts
pub mod Reasons
