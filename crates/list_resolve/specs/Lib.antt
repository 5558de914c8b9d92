pub mod Documents
pub mod ElementPlaces
pub mod FlatLists
pub mod References
pub mod Resolution
pub mod ScopedElements
pub mod Walks
pub mod inner
