pub mod Listed
pub mod Lived
pub mod Passing
pub mod Stepped
pub mod Streamed
pub mod Told
