pub mod Parts
pub mod Images
pub mod Files
pub mod Reading
