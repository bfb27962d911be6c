pub mod Looks
pub mod Steps
pub mod Found
pub mod Whole
pub mod Reading
pub mod Records
pub mod Texts
