-- What private functions and proofs use. No clause of a public call needs it.
pub mod DurableServers
pub mod RecordedRequests
pub mod ServerSteps
pub mod WritableTargets
