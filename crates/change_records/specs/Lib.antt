pub mod ReadFields
pub mod Readings
pub mod Records
pub mod inner
