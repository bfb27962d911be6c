pub mod Owners
pub mod Walks
pub mod Changes
pub mod Stepped
pub mod Gathering
pub mod Making
pub mod Seen
