pub mod Packets
pub mod Reading
pub mod Recounting
