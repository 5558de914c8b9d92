-- Definitions for private functions and proofs; no public clause needs them.
pub mod Attributes
pub mod Heights
pub mod LinkedScopes
pub mod NodeBorrows
pub mod Nodes
pub mod Print
pub mod Proper
pub mod TreeCodes
