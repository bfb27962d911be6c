pub mod Steps
pub mod Turning
pub mod Stored
pub mod Laws
