pub mod Ends
pub mod Turns
pub mod Wrote
pub mod Writer
pub mod OpenLine
pub mod OpenRun
pub mod Tally
