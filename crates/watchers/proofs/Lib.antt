pub mod AttributeLemmas
pub mod Holdings
pub mod LineBytes
pub mod Turns
