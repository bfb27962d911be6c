pub mod Serials
pub mod HeldMaps
pub mod Walks
pub mod Looks
pub mod SlotTables
pub mod SlotTouches
pub mod TableSteps
pub mod SlotSteps
