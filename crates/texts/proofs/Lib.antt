mod Writes
mod Answered
mod Standing
mod InLines
mod InRuns
pub mod Starts
pub mod RecordLines
pub mod RecordApart
pub mod Tallies
