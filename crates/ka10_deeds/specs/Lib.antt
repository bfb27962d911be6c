pub mod Done
pub mod Acts
pub mod Bytes
pub mod Addresses
pub mod KnownSums
