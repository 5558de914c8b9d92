pub mod BufferStates
pub mod Peers
pub mod ServedBytes
pub mod inner
