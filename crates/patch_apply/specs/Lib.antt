pub mod ApplyAnswers
pub mod DiffTexts
pub mod Views
pub mod inner
