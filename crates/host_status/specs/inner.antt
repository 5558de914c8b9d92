-- What private functions and proofs use. No clause of a public call needs it.
pub mod StatusServers
