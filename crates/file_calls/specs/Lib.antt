pub mod Answering
pub mod Jobs
pub mod Asking
pub mod Changing
pub mod Turning
