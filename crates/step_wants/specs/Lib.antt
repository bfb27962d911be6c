pub mod Names
pub mod Naming
pub mod Wants
pub mod Homes
