pub mod Once
pub mod Glide
pub mod Spots
