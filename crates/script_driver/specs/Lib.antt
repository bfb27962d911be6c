pub mod Runs
pub mod Verdicts
pub mod Machines
pub mod OverFrames
pub mod Driving
pub mod Observed
pub mod RunTexts
pub mod Statuses
