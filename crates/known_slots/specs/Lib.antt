pub mod WalkTimes
pub mod KnownNow
pub mod Slots
