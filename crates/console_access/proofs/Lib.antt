pub mod ShownWords
pub mod Looks
mod Changing
mod Making
pub mod Away
mod Judging
pub mod Writes
