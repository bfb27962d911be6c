pub mod Turning
pub mod Depositing
pub mod Planning
pub mod Carrying
pub mod Filling
pub mod Writing
