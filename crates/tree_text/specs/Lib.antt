pub mod ContentPieces
pub mod FaultKinds
pub mod Faults
pub mod Grammar
pub mod Names
pub mod Spellings
pub mod readers
