pub mod Command
pub mod Booting
pub mod Headline
pub mod Isolation
pub mod Statuses
pub mod Steady
pub mod Memory
pub mod Runs
