pub mod Kept
pub mod Reaching
pub mod Found
pub mod HeldFrames
pub mod YoungFrames
