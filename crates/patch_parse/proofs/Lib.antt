pub mod ByNodes
pub mod Items
pub mod SameNames
pub mod SelectorReading
pub mod Words
