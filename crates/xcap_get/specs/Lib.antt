pub mod LentReplies
pub mod inner
