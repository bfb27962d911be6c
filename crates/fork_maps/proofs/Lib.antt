pub mod ForkMaps
pub mod Listing
