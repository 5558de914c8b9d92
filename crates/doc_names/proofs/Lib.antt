pub mod AsciiPrints
pub mod Keys
pub mod OctetPrints
pub mod SameIds
pub mod Words
