pub mod Trees
pub mod Making
pub mod Inferiors
pub mod Changes
pub mod Places
pub mod Lending
pub mod Waking
