pub mod ByteOffsets
pub mod Tokens
pub mod Values
pub mod readers
