-- What bytes are by the grammar: the tree or the value that they spell, or their fault and its
-- byte. Running out of memory is none of these faults.
use Rattle.std.specs.Prelude.{◌≡◌, ◌⊎◌, ℕ, ◌+◌, ◌-◌, ◌<◌, ◌==◌, List, [], ◌∷◌, Option, None, Some}
use Rattle.std.specs.Prelude.{unwrap_or, Result, Ok, Err, IsUtf8, if◌then◌else◌, chars}
use Rattle.xml_grammar.specs.TextReading.{Stop, Syntax, Faulty, take_while, drop_while}
use Rattle.xml_grammar.specs.ParseResults.{IsParseResult}
use Rattle.xml_tree.specs.Tree.{Tree}
use Rattle.xml_names.specs.declared.names.Decl.{Decl}
use Rattle.xml_tokens.specs.declared.fault_kind.FaultKind.{FaultKind}
use Rattle.xml_tokens.specs.declared.fault_kind.FaultKind.TheVariants.{Encoded, Doctyped, Depth}
use Rattle.xml_tokens.specs.declared.fault_kind.FaultKind.TheVariants.{Unbound, Repeated}
use Rattle.tree_text.specs.declared.fault.TextFault.{TextFault}
use Rattle.tree_text.specs.declared.fault.TextFault.TheVariants as texts
use Rattle.tree_text.specs.declared.fault.ValueFault.{ValueFault}
use Rattle.tree_text.specs.declared.fault.ValueFault.TheVariants as bodies
use Rattle.tree_text.specs.FaultKinds.{fault_ranking}
use Rattle.xml_tokens.specs.Tokens.{is_quote}
use Rattle.tree_text.specs.Grammar.{document, unquoted_value}
use Rattle.xml_tokens.specs.ByteOffsets.{byte_offset}
use Rattle.xml_tokens.specs.Tokens.{is_different_char}

-- ---- documents and fragments

-- the fault of each stop: after the longest beginning, or at the place of the first fault
abbrev pub stop_fault : List ℕ → Stop FaultKind → TextFault
stop_fault bytes (Syntax left) = texts.NotWellFormed (byte_offset bytes left)
stop_fault bytes (Faulty Encoded left) = texts.NotUtf8
stop_fault bytes (Faulty Doctyped left) = texts.Doctype (byte_offset bytes left)
stop_fault bytes (Faulty (Depth depth) left) = texts.TooDeep (byte_offset bytes left)
stop_fault bytes (Faulty Unbound left) = texts.Namespace (byte_offset bytes left)
stop_fault bytes (Faulty Repeated left) = texts.RepeatedAttribute (byte_offset bytes left)

-- the tree, or the fault
abbrev pub text_result : List ℕ → Result Tree (Stop FaultKind) → Result Tree TextFault
text_result bytes (Ok tree) = Ok tree
text_result bytes (Err stop) = Err (stop_fault bytes stop)

-- The answer for bytes by the grammar: the tree that they spell and no other, or the first fault.
-- It doesn't depend on how many more levels than the limit the grammar is given.
pub record IsUtf8TextResult (limit : ℕ) (scope : List (List Decl)) (bytes : List ℕ)
    (answer : Result Tree TextFault) : Type 0 where
  pub stated : Result Tree (Stop FaultKind)
  pub by_grammar : (n : ℕ) → limit + 1 < n
      → IsParseResult (fault_ranking limit) (document n scope) (chars bytes) stated
  pub is_told : answer ≡ text_result bytes stated

abbrev pub IsTextResult : ℕ → List (List Decl) → List ℕ → Result Tree TextFault → Type 0
IsTextResult limit scope bytes answer =
    (IsUtf8 bytes × IsUtf8TextResult limit scope bytes answer)
    ⊎ ((IsUtf8 bytes → ⊥) × (answer ≡ Err texts.NotUtf8))

-- ---- bodies that spell a value

-- the first part of a text, where exactly one character follows it
abbrev pub front_before_one_char : List ℕ → List ℕ → Option (List ℕ)
front_before_one_char front [] = None
front_before_one_char front (c ∷ []) = Some front
front_before_one_char front (c ∷ d ∷ cs) = None

-- the inside of a body between two quotes of one kind, which doesn't contain that quote
abbrev pub strip_quotes : List ℕ → Option (List ℕ)
strip_quotes [] = None
strip_quotes (c ∷ cs) =
    if is_quote c
    then
    front_before_one_char (take_while (is_different_char c) cs)
    (drop_while (is_different_char c) cs)
    else None

-- the part of a body that spells its value: that inside, or the whole body
abbrev pub unquoted_body : List ℕ → List ℕ
unquoted_body body = unwrap_or (strip_quotes body) body

-- how many bytes follow it
abbrev pub closing_quote_len : Option (List ℕ) → ℕ
closing_quote_len None = 0
closing_quote_len (Some inside) = 1

-- the byte of a body at which this rest of its spelling begins
abbrev pub body_offset : List ℕ → List ℕ → List ℕ → ℕ
body_offset body bytes left = byte_offset bytes left - closing_quote_len (strip_quotes body)

-- the value, or the fault
abbrev pub body_result : List ℕ → List ℕ → Result (List ℕ) (Stop FaultKind)
    → Result (List ℕ) ValueFault
body_result body bytes (Ok value) = Ok value
body_result body bytes (Err (Syntax left)) = Err (bodies.NotValue (body_offset body bytes left))
body_result body bytes (Err (Faulty kind left)) =
    Err (bodies.NotValue (body_offset body bytes left))

-- the answer for a body by the grammar
pub record IsUtf8BodyResult (bytes : List ℕ) (answer : Result (List ℕ) ValueFault) : Type 0 where
  pub stated : Result (List ℕ) (Stop FaultKind)
  pub by_grammar : IsParseResult (fault_ranking 0) unquoted_value
      (unquoted_body (chars bytes)) stated
  pub is_told : answer ≡ body_result (chars bytes) bytes stated

abbrev pub IsBodyResult : List ℕ → Result (List ℕ) ValueFault → Type 0
IsBodyResult bytes answer =
    (IsUtf8 bytes × IsUtf8BodyResult bytes answer)
    ⊎ ((IsUtf8 bytes → ⊥) × (answer ≡ Err bodies.NotUtf8))
