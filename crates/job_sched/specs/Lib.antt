pub mod Rows
pub mod Orders
pub mod Schedules
pub mod Units
pub mod Lines
pub mod Turns
pub mod Places
pub mod Ties
