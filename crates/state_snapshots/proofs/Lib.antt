pub mod ReadBack
pub mod States
pub mod Texts
