pub mod Crashes
pub mod DiskHistories
pub mod FolderStates
