pub mod Effects
pub mod Reaching
pub mod Deeds
