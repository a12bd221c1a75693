pub mod Kept
pub mod KeptLaws
pub mod LooseValues
pub mod NumberLaws
pub mod Told
