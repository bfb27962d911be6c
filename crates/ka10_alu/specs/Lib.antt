pub mod Outs
pub mod Laws
pub mod Halfwords
pub mod MaskedBits
