pub mod Follows
pub mod Texts
pub mod RecordLines
pub mod Limits
pub mod Entries
pub mod Script
pub mod Taker
