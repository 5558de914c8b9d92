-- Walking a document from left to right: definitions for private functions and proofs; the only
-- public clauses that need them are clauses of `services`, of the calls that check only the
-- neighbours of a change (`part_of`, `may_follow`, `clash_below`), and of laws.
pub mod AddressStates
pub mod ContentParts
pub mod ContentWalks
pub mod FirstFaults
pub mod KeyRepeats
pub mod NeighbourParts
pub mod ServiceLengths
pub mod ServiceNodes
pub mod ServiceUris
pub mod SiblingElements
