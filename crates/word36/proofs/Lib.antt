pub mod SingleBits
pub mod BitSums
pub mod OctalLemmas
