pub mod Holding
mod Changed
mod Turns
mod Names
mod Taking
pub mod Times
