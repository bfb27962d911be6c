pub mod Outcomes
pub mod Reading
pub mod Laws
pub mod Needing
