pub mod Premises
pub mod ReplayLaws
pub mod SelectedNodes
