pub mod Fields
pub mod Typing
pub mod Rows
pub mod Grammar
pub mod Lines
pub mod Canonical
pub mod Generator
pub mod Stages
