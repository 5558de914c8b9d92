pub mod DocIds
pub mod NameEquality
pub mod PercentEscapes
pub mod Usages
