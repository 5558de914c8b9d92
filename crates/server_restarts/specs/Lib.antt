pub mod KeptDocuments
pub mod StatesOfLogs
