pub mod Comes
pub mod Ended
pub mod Unread
