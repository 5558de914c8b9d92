-- Definitions for private functions and proofs; no public clause needs them.
pub mod DeclarationMaps
pub mod SmallTextChars
pub mod TextBytes
pub mod ValueCodes
