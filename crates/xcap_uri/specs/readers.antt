-- Targets read from left to right, as code and proofs read them. That this reading follows the
-- rules is proved.
pub mod Escapes
pub mod Queries
pub mod Roots
pub mod Shapes
pub mod Steps
pub mod Targets
pub mod UriSteps
pub mod Words
