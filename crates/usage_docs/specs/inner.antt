-- Definitions for private functions and proofs; no public clause needs them.
pub mod KindsBelow
pub mod PathTrails
pub mod ServiceIndexes
