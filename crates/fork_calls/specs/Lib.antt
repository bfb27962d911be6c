pub mod Steps
pub mod Turning
pub mod Blocks
pub mod Needing
