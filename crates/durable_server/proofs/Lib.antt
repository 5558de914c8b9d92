pub mod KeptSteps
pub mod LogNumbers
pub mod ReadRequests
pub mod Steps
