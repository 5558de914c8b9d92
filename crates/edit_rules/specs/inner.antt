-- Definitions for private functions and proofs; no public clause needs them.
pub mod TestedValues
