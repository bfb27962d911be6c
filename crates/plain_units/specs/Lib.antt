pub mod Units
pub mod Steps
pub mod Addressing
pub mod Deeds
pub mod Instructions
pub mod Blocks
