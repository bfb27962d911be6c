pub mod Looks
pub mod Peeks
pub mod Touches
pub mod DrivenTurns
pub mod Numbered
pub mod Families
