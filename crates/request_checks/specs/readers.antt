-- The two fields read from left to right, as code and proofs read them. That this reading is the
-- grammar's is proved.
pub mod Fields
