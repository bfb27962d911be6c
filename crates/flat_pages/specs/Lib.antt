pub mod StoredPages
pub mod StoredLists
pub mod StoreMeaning
pub mod SlotMeaning
pub mod Emptying
pub mod FileSteps
