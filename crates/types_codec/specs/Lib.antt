pub mod Front
pub mod Codec
pub mod Truth
pub mod Varint
