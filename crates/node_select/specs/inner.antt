-- Definitions for private functions and proofs; no public clause needs them.
pub mod LongestMatches
pub mod Selection
