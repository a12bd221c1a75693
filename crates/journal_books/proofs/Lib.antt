mod Resting
mod Looking
mod Weaker
mod Refusals
