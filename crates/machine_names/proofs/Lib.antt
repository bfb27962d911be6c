pub mod Fixed
pub mod OrderLemmas
pub mod Keys
