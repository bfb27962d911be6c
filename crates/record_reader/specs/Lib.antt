pub mod Order
pub mod Versions
pub mod Verdicts
pub mod OneLine
pub mod Reader
