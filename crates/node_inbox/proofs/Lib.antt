mod Leaving
mod Owning
