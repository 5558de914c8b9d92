pub mod LogContents
pub mod LogHistories
pub mod LogItems
pub mod LogStates
