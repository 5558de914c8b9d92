-- Definitions for private functions and proofs. No clause of a public call needs them.
pub mod ChangeResults
pub mod ChildChangeResults
pub mod LongestMatches
pub mod Neighbours
pub mod ParentPaths
