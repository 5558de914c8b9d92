pub mod Grammar
pub mod readers
