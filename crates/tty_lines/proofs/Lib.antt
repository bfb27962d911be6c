pub mod Assigned
pub mod Ordered
