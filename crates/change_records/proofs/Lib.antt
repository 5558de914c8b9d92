pub mod AddedFields
pub mod Again
pub mod FormReadings
pub mod KeptFields
pub mod Lengths
pub mod Options
pub mod ReadBack
