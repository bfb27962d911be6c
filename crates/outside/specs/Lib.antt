pub mod Faults
pub mod Told
pub mod Drums
pub mod ToldPages
