pub mod Seeing
pub mod Following
pub mod Ties
pub mod Choices
