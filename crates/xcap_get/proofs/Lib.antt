pub mod FlatDocuments
pub mod FlatReplies
pub mod Heights
pub mod HeldOnes
pub mod IndexResources
pub mod IndexSteps
pub mod Lengths
pub mod LentReplyLemmas
