pub mod Stored
pub mod Used
pub mod Ready
pub mod IndirectWords
