pub mod Asking
mod Booting
mod InBytes
mod Stopping
mod Isolation
mod Statuses
mod Running
pub mod Spelled
