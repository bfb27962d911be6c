pub mod MapLaws
pub mod Steps
pub mod Changes
pub mod Same
pub mod Turning
pub mod FileLaws
