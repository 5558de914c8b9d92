-- The parts of values, as loops read them.
use Rattle.std.specs.Prelude.{ℕ, List, ◌++◌}
use Rattle.xml_grammar.specs.TextReading.{Reader, read_sequence, read_mapped}
use Rattle.xml_tokens.specs.declared.fault_kind.FaultKind.{FaultKind}
use Rattle.xml_tokens.specs.Values.{pieces_value, normalized_raw}
use Rattle.xml_tokens.specs.readers.Tokens.{read_reference, read_raw_value}

-- raw characters of a value, after normalization
abbrev pub read_normalized_raw : ℕ → Reader FaultKind (List ℕ)
read_normalized_raw quote = read_mapped normalized_raw (read_raw_value quote)

-- a reference of a value, and the raw characters after it
abbrev pub read_reference_piece : ℕ → Reader FaultKind (ℕ × List ℕ)
read_reference_piece quote = read_sequence read_reference (λ _. read_raw_value quote)

-- a value so far, and the pieces that follow
abbrev pub value_with : List ℕ → List (ℕ × List ℕ) → List ℕ
value_with front pieces = front ++ pieces_value pieces
