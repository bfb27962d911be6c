pub mod Parted
pub mod Said
