pub mod Ending
pub mod Serving
pub mod Rewriting
pub mod Settings
