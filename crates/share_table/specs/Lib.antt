pub mod Pointers
pub mod Shares
