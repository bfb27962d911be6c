pub mod Lending
pub mod Counts
