pub mod Asking
pub mod Turning
pub mod Planning
pub mod Changing
