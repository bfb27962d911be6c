pub mod Latest
pub mod Places
pub mod Seated
pub mod Linked
pub mod Moved
pub mod Kept
pub mod Rows
