mod KeptThrough
mod HeldLists
pub mod Taking
pub mod Noting
pub mod Holding
pub mod Completing
pub mod Resting
pub mod Ending
pub mod Fetching
pub mod Using
pub mod Making
pub mod Fetched
pub mod Releasing
pub mod Holds
pub mod Vacating
pub mod Booting
pub mod Lasting
pub mod Living
