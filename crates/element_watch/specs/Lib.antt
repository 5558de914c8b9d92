pub mod ElementNotices
pub mod SelectionHistory
pub mod TouchedElements
pub mod WatchedElements
pub mod inner
