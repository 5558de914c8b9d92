mod Attributes
pub mod ConflictBytes
mod FoundNodes
mod Fronts
mod Parents
