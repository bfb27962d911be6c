pub mod Played
pub mod Plays
pub mod Replays
pub mod Hearing
pub mod Stages
