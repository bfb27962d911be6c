mod Rooms
mod Filed
mod Inspected
pub mod NamedPages
mod FileReferences
pub mod FileDid
pub mod Told
pub mod Systems
mod Running
mod CallerStays
pub mod UnitEffect
mod Rows
pub mod UnitDid
pub mod JobDid
mod Logins
pub mod EventDid
pub mod BootDid
pub mod SoundKept
mod Sleepers
pub mod JobOthers
mod NeedsFirst
mod KeptSlots
mod Transfers
