pub mod Fronts
pub mod Grammar
pub mod Onlys
pub mod ReadConditions
pub mod Values
pub mod WordCase
