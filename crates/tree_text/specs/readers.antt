-- Reading texts from left to right: the definitions that the code's contracts and the proofs use.
-- What reading a text returns is what the grammar says of its bytes (`IsTextResult`,
-- `IsBodyResult`); the only public clauses that refer to this folder are clauses of laws.
pub mod Bindings
pub mod ContentReaders
pub mod Meanings
pub mod TagNameFaults
pub mod TagValues
pub mod Texts
pub mod Views
pub mod WholeTexts
