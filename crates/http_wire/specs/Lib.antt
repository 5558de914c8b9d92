pub mod ChunkedBodies
pub mod ConnectionItems
pub mod Fields
pub mod Framing
pub mod Heads
pub mod NextRequests
pub mod ServedConnections
pub mod inner
