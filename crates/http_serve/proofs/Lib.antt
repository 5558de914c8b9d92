pub mod Faults
pub mod LentAnswers
pub mod Ports
pub mod Rooms
pub mod SentLemmas
pub mod Simulations
pub mod TurnAnswers
pub mod TurnLemmas
