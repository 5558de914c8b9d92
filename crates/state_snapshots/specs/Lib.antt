pub mod Names
pub mod PartViews
pub mod Readings
pub mod Snapshots
pub mod States
