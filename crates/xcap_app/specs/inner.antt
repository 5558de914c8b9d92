-- What private functions and proofs use. No clause of a public call needs it.
pub mod CommandOutputs
pub mod ConnectionExits
pub mod JournalOutputs
pub mod KnownPorts
pub mod MessageBytes
pub mod RecorderSteps
pub mod ServingEnds
pub mod StandardAddresses
