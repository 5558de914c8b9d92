-- Reading texts from left to right: the definitions that the code's contracts and the proofs use.
-- What reading a text returns is what its rules say; the only public clauses that refer to this
-- folder are clauses of readers and of laws.
pub mod RuleReaders
pub mod Suffixes
