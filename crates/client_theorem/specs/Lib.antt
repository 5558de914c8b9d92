pub mod FeedRequests
pub mod FollowFaults
pub mod FollowResults
pub mod SubscriberVersions
pub mod inner
