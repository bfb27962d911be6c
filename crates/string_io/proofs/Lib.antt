pub mod Turns
pub mod Depositing
pub mod Planned
pub mod Taken
pub mod Carried
pub mod Filled
pub mod Written
