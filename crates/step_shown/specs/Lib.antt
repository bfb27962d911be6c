pub mod Shown
pub mod Replies
pub mod Echoes
pub mod Reaching
pub mod Runners
