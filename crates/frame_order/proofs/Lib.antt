pub mod Orders
pub mod Changes
pub mod Threads
pub mod Rings
