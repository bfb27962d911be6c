pub mod Splits
pub mod Held
pub mod Reading
