pub mod Asking
pub mod Paging
pub mod Stages
pub mod Making
pub mod Laws
