pub mod FileFormat
pub mod FolderLogs
pub mod LogOpenings
pub mod Restarts
pub mod inner
