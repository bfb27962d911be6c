pub mod Judgements
pub mod Inspecting
pub mod Laws
