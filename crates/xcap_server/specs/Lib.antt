pub mod DurableSteps
pub mod LoggedServers
pub mod ReplayedRequests
pub mod RestartedServers
pub mod inner
