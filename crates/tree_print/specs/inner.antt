-- Definitions for private functions and proofs; no public clause needs them.
pub mod Escapes
pub mod LentPrints
pub mod Parts
