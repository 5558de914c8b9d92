pub mod BufferLemmas
pub mod Rounds
