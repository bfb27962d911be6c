pub mod DrumWords
pub mod Stores
pub mod Pages
pub mod Changes
