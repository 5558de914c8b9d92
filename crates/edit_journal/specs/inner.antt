-- Definitions for private functions and proofs. No clause of a public call needs them.
pub mod AppendSteps
pub mod JournaledMachines
pub mod ReadBuffer
pub mod RecordParts
pub mod RecordScans
pub mod ReplaySteps
pub mod WritableFields
