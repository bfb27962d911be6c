pub mod Characters
pub mod Lines
pub mod Typing
pub mod Words
pub mod Commands
