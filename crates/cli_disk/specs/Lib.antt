pub mod HostedDisk
pub mod Requests
pub mod Told
