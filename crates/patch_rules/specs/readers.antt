-- Operations and diff documents with their selectors as the code reads them, from left to right:
-- what the code and the proofs use.
pub mod AppliedOperations
pub mod Replay
