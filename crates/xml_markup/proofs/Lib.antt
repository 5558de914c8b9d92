pub mod CommentLemmas
pub mod DroppedParts
