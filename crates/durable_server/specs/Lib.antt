pub mod DurableMachines
pub mod KeptStates
pub mod inner
