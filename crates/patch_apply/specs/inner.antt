-- What private functions and proofs use; no public contract cites it.
pub mod ActionResults
pub mod ContentNodes
pub mod LocationViews
pub mod OutcomeViews
pub mod Results
