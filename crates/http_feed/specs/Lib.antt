pub mod Feeds
pub mod GivenBytes
pub mod inner
