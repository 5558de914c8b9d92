pub mod Conflicts
pub mod NodePlaces
pub mod Nodes
