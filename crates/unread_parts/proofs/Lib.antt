pub mod RecordedRequests
pub mod SameChanges
pub mod SameDocuments
