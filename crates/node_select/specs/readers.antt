-- Reading selectors from left to right: the definitions that the code's contracts and the proofs
-- use.
pub mod Literals
pub mod NameResolution
pub mod ParseErrors
pub mod PartialReads
pub mod RawSelectors
pub mod SelectorValues
pub mod Selectors
pub mod Views
pub mod WholeSelectors
