-- Reading markup from left to right: the definitions that the clauses of the calls use. That they
-- read what the rules spell is proved of each whole grammar, by the crate that has it.
pub mod Literals
pub mod Markup
