pub mod Leaves
pub mod Deeds
pub mod Showings
