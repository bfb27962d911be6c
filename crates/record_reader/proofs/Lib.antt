pub mod Digits
pub mod OneLine
pub mod Grown
pub mod Behind
pub mod Standing
pub mod OneReading
pub mod Written
pub mod WholeReadings
