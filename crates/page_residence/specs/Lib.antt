pub mod Resident
pub mod Victims
