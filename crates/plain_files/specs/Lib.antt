pub mod Bytes
pub mod Sizes
pub mod Directory
pub mod JobFiles
pub mod Jobs
pub mod OpenFiles
pub mod NamedFiles
