pub mod Turns
pub mod Telling
pub mod Granting
pub mod Needing
pub mod Numbers
pub mod Answers
pub mod Making
pub mod Families
