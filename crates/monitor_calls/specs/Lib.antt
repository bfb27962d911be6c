pub mod Limits
pub mod Typings
pub mod Jobs
pub mod Makings
pub mod Reasons
pub mod ForkUnit
pub mod Sound
pub mod Reaching
