pub mod HousedPages
pub mod SettledPages
pub mod ChangedEntries
pub mod EmptyEntries
