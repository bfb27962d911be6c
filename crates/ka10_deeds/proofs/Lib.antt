pub mod Outcomes
pub mod Acting
pub mod Counting
