pub mod Outcome
pub mod Giving
pub mod Terminals
