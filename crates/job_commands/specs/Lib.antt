pub mod Needing
pub mod Programs
pub mod Leaving
pub mod Going
pub mod Deleting
pub mod Listing
