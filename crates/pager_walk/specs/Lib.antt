pub mod Decoding
pub mod MapPages
pub mod PagedMaps
pub mod Walks
pub mod NewPages
