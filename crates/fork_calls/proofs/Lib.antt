pub mod Frozen
pub mod OtherRuns
pub mod Halting
pub mod Going
pub mod TurnBlocks
pub mod Grown
pub mod Adding
pub mod Added
pub mod MadeTurns
pub mod Needed
mod HomesBack
