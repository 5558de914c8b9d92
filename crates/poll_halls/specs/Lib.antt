pub mod SlotStreams
pub mod inner
