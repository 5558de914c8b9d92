pub mod Notices
pub mod PatchOperations
pub mod Replay
pub mod Selectors
pub mod inner
pub mod readers
