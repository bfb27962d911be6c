pub mod Gave
pub mod Given
pub mod GivenParts
mod ForksShown
mod Listed
mod Silent
