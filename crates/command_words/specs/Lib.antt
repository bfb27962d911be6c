pub mod Words
pub mod RecordWords
pub mod Parser
pub mod TextWords
