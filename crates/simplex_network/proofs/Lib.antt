mod Sound
mod Naming
mod Readable
mod Spelled
