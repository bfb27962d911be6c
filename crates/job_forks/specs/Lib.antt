pub mod Limits
pub mod Asking
pub mod Holding
pub mod Killing
