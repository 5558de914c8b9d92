pub mod AttributeBodyPrints
pub mod PrintPieces
pub mod inner
