pub mod Core
pub mod Seats
pub mod Reached
pub mod Ages
pub mod Deeds
pub mod Victims
