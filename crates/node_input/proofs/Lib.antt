mod Moments
mod Latching
mod Behind
mod Judging
mod Tests
mod Refusals
mod Heeding
mod Replying
