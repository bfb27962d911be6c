pub mod Memories
pub mod Seats
pub mod Stacks
pub mod Rows
