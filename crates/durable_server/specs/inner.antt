-- Definitions for private functions and proofs. No clause of a public call needs them.
pub mod FewerRequests
