-- What private functions and proofs use; no public contract cites it.
pub mod DiffNames
pub mod OperationContents
pub mod SelectorErrors
