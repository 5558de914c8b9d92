pub mod FreePrefix
pub mod Lengths
pub mod NameCuts
pub mod Words
