pub mod Longer
pub mod OneVarint
pub mod ShortVarints
pub mod Decoding
