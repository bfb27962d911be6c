pub mod FrameOrder
pub mod Ring
