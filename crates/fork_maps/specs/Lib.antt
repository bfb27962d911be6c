pub mod ChainWalks
pub mod ForkMaps
pub mod MapNumbers
