pub mod FixedText
pub mod Orders
pub mod PageWords
pub mod Bounds
pub mod FileNames
