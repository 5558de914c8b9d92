pub mod Digits
pub mod ParseResults
pub mod Rules
pub mod TextReading
pub mod readers
