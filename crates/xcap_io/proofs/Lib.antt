pub mod BufferPieces
pub mod ConnectionStarts
pub mod Lines
pub mod PairLemmas
pub mod Steps
pub mod TrafficSums
