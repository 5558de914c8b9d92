pub mod BeganRequests
pub mod DataSteps
pub mod FeedParts
pub mod ReadPlaces
pub mod ReturnedItems
