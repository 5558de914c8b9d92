-- Definitions for private functions and proofs. No clause of a public call needs them.
pub mod Addresses
pub mod ChangePlans
pub mod ChangesSince
pub mod HomeSums
pub mod Prints
pub mod RecordRings
pub mod RestoredEntries
pub mod Roots
pub mod ServiceListing
pub mod StoreMemory
pub mod UnsharedTrees
