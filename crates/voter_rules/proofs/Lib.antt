mod Alone
mod Asking
mod Preferring
mod Single
mod Testing
mod Voting
mod Walking
mod Windowing
