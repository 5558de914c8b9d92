pub mod AddressedDocuments
mod Ascii
mod Bindings
mod DigitByDigit
mod EscapeLemmas
mod FaultOrder
mod HomeIds
mod Lasts
mod Letters
pub mod MeaningLemmas
pub mod NamePrints
pub mod Nameable
pub mod Octets
pub mod Parts
mod Pieces
mod QueryAnswers
mod QueryItems
mod QueryUris
mod ReadsBack
mod RootAnswers
mod SegmentAnswers
mod SegmentLemmas
mod ShapeAnswers
pub mod TargetAnswers
mod UriChars
