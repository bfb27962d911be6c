pub mod Entries
mod Hearing
mod Runnable
mod Gone
mod Rows
mod Stops
mod Typed
mod TypedIn
mod Typing
mod Ends
mod Opened
mod Written
pub mod RunsAgain
