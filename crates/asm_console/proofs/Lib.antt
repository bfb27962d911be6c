pub mod Below
pub mod Judging
pub mod Whole
pub mod Scripts
pub mod Writes
