pub mod Terms
pub mod Kind
pub mod Rotation
pub mod Shuffle
pub mod RotationLaws
pub mod Windows
pub mod Spans
