pub mod KeptDocuments
pub mod Numbers
pub mod OneState
pub mod Snapshots
