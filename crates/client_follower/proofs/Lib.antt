mod ConnectionCounts
pub mod FollowerRequests
pub mod ResponseContents
pub mod Words
