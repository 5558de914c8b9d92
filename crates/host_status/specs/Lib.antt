pub mod HostSteps
pub mod StatusTexts
pub mod inner
