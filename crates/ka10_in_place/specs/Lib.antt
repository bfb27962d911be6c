pub mod Stores
pub mod Targets
pub mod InPlace
pub mod Fetches
pub mod Bursts
pub mod ByteRests
