pub mod PlainPages
pub mod Maps
pub mod Room
pub mod References
pub mod FilePages
pub mod NewMaps
pub mod NewEntries
pub mod WholePages
