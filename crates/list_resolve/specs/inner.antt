-- Definitions for private functions and proofs. No clause of a public call needs them.
pub mod ChildItems
pub mod PlaceCodes
pub mod PlaceTests
pub mod SkippedElements
pub mod Views
pub mod VisitChains
pub mod WalkStates
