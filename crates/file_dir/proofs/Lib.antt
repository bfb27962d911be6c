pub mod Texts
pub mod Places
pub mod Listing
pub mod Whole
pub mod Following
