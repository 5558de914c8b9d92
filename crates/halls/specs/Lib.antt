pub mod CallResults
pub mod HallState
pub mod MemoryHalls
pub mod StateChanges
pub mod inner
