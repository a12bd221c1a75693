pub mod ShowsKnown
pub mod Progress
pub mod Beginning
pub mod Views
