pub mod Followed
pub mod Over
pub mod OverSound
pub mod Paging
pub mod OnDrum
pub mod Laws
