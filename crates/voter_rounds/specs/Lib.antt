pub mod Laws
pub mod Lending
pub mod Marks
pub mod Rounds
pub mod Tracked
