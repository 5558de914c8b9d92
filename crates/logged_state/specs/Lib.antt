pub mod DurableAnswers
pub mod Restarts
