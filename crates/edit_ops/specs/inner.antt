-- Definitions for private functions and proofs; no public clause needs them.
pub mod LengthChanges
pub mod LocalChanges
pub mod OperationLengths
pub mod WeighedRecords
