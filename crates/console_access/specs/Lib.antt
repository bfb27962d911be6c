pub mod Holding
pub mod Looking
pub mod Needing
pub mod Writing
