pub mod CommandEnds
pub mod FaultMessages
pub mod FollowCommand
pub mod InputTexts
pub mod OutputBytes
pub mod OutputLines
pub mod PutCommand
pub mod inner
