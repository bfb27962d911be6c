pub mod Parts
pub mod Images
pub mod Growing
pub mod Peeking
pub mod Pages
pub mod Texts
