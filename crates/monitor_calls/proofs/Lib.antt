pub mod Maps
mod MapFrom
pub mod Lookups
mod Kills
pub mod Silent
mod UnitRan
mod UnitRows
pub mod Keeping
mod Leaving
mod Stopping
mod Calling
mod WhyNeeded
pub mod NamedKeys
pub mod JfnsAsked
mod JfnTurns
mod MapTurns
mod ByteTurns
mod CodeTurns
pub mod Sounds
mod MadeBeside
pub mod ReachDid
