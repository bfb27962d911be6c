pub mod Slept
pub mod Ended
