mod Lasting
mod GivenUp
mod Trying
mod Making
mod Casting
mod Settling
