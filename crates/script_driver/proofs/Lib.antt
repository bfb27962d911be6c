mod Turns
mod Found
mod Lined
mod Generating
mod Fairness
mod Running
mod Causes
mod Drums
mod Statuses
pub mod Closing
pub mod Spelled
