pub mod Turns
pub mod Passing
pub mod Nothing
pub mod JobMoves
pub mod ForkMoves
pub mod AllMoves
