-- Reading tokens from left to right: the definitions that the clauses of the calls use. A call
-- returns what its reading function does; that reading functions read what their rules spell is
-- proved of each whole grammar, by the crate that has it.
pub mod CharacterRuns
pub mod Classes
pub mod Literals
pub mod ReadResults
pub mod TokenViews
pub mod Tokens
pub mod ValueParts
