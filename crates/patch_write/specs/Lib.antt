pub mod Modes
pub mod inner
