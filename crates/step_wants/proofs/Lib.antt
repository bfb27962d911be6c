mod Few
mod Away
pub mod FewDeeds
mod Again
mod Stepping
mod Turning
mod Families
mod Texts
mod Once
mod Small
mod Bounded
mod FewCalls
mod FewOthers
mod Own
mod Keeping
mod Channels
pub mod Units
mod DeedsNamed
mod UnitsNamed
mod Wanted
pub mod Homing
mod Rekeyed
mod SameNames
