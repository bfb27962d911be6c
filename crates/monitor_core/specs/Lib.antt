pub mod JobEvents
pub mod Systems
pub mod Transfers
pub mod Needing
pub mod Reaching
