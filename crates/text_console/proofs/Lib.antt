pub mod Ending
pub mod Asking
