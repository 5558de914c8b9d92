-- The result for bytes: that they aren't UTF-8, or the result of reading their characters.
use Rattle.std.proofs.Common.{◌≡◌, ℕ, ◌-◌, Bool, true, false, List, Result, Ok, Err, refl, sym, ap, subst, ◌∙◌}
use Rattle.std.specs.Prelude.{IsUtf8}
use Rattle.std.specs.Str.{chars, is_utf8}
use Rattle.std.proofs.lemmas.Str.{IsUtf8-from_is_utf8, is_utf8-from_IsUtf8}
use Rattle.xml_grammar.specs.TextReading.{Stop, Syntax, Faulty}
use Rattle.xml_grammar.specs.readers.RuleReaders.{read_whole_text}
use Rattle.xml_tree.specs.Tree.{Tree}
use Rattle.xml_names.specs.declared.names.Decl.{Decl}
use Rattle.xml_tokens.specs.declared.fault_kind.FaultKind.{FaultKind}
use Rattle.tree_text.specs.declared.fault.TextFault.{TextFault}
use Rattle.tree_text.specs.declared.fault.TextFault.TheVariants as texts
use Rattle.xml_tokens.specs.declared.parse_error.ParseError.{ParseError as CodeStop}
use Rattle.xml_tokens.specs.declared.parse_error.ParseError.TheVariants as stops
use Rattle.xml_tokens.specs.ByteOffsets.{byte_offset}
use Rattle.tree_text.specs.Faults.{body_result, body_offset, strip_quotes, unquoted_body, text_result as told, closing_quote_len as closing}
use Rattle.tree_text.specs.declared.fault.ValueFault.{ValueFault}
use Rattle.tree_text.specs.declared.fault.ValueFault.TheVariants as bodies
use Rattle.xml_names.specs.declared.read_error.ReadError.{ReadError}
use Rattle.xml_names.specs.declared.read_error.ReadError.TheVariants as errors
use Rattle.xml_tokens.specs.readers.ReadResults.{IsSameStop}
use Rattle.xml_names.specs.ReadErrors.{ResultSatisfies}
use Rattle.tree_text.specs.readers.Texts.{read_text, read_unquoted_value}
use Rattle.tree_text.specs.readers.WholeTexts.{IsErrorOfStop, read_document_text, IsBodyErrorOfStop, read_body_text}

not_by : (bytes : List ℕ) (b : Bool) → is_utf8 bytes ≡ b → (IsUtf8 bytes → ⊥) → is_utf8 bytes ≡ false
not_by bytes true e n = absurd (n (IsUtf8-from_is_utf8 bytes e))
not_by bytes false e n = e

pub not_read : (limit : ℕ) (scope : List (List Decl)) (bytes : List ℕ) → (IsUtf8 bytes → ⊥) → read_document_text limit scope bytes ≡ Err texts.NotUtf8
not_read limit scope bytes n = rw (not_by bytes (is_utf8 bytes) refl n) refl

module _ (limit : ℕ) (scope : List (List Decl)) (bytes text all : List ℕ) (same : text ≡ bytes) (utf8 : IsUtf8 bytes) (decoded : all ≡ chars text) where
  pub is_read : (out : Result Tree (Stop FaultKind)) → read_whole_text (read_text limit scope) all ≡ out → read_document_text limit scope bytes ≡ told bytes out
  is_read out h =
      let yes : is_utf8 bytes ≡ true = is_utf8-from_IsUtf8 bytes utf8 in
      let read : read_whole_text (read_text limit scope) (chars bytes) ≡ out = ap (read_whole_text (read_text limit scope)) (sym (decoded ∙ ap chars same)) ∙ h in
      rw yes (ap (told bytes) read)

  pub ok_told : (tree : Tree) → read_whole_text (read_text limit scope) all ≡ Ok tree → (let answer : Result Tree TextFault = Ok tree in answer ≡ read_document_text limit scope bytes)
  ok_told tree h = sym (is_read (Ok tree) h)

  -- the call returns a fault of the text, or that memory ran out
  abbrev Tells : ReadError TextFault → Type 0
  Tells error = let answer : Result Tree (ReadError TextFault) = Err error in ResultSatisfies (λ answer. answer ≡ read_document_text limit scope bytes) answer

  pub fault_told : (stop : CodeStop) (error : ReadError TextFault) → IsSameStop stop (read_whole_text (read_text limit scope) all) → IsErrorOfStop bytes stop error → Tells error
  fault_told (stops.Syntax rest) error h f = subst Tells (sym f) (sym (is_read (Err (Syntax (chars rest.now))) h))
  fault_told (stops.Faulty kind rest) error h f = subst Tells (sym f) (sym (is_read (Err (Faulty kind (chars rest.now))) h))
  fault_told stops.Memory error h f = subst Tells (sym f) tt

-- ---- bodies

pub body_not_read : (bytes : List ℕ) → (IsUtf8 bytes → ⊥) → read_body_text bytes ≡ Err bodies.NotUtf8
body_not_read bytes n = rw (not_by bytes (is_utf8 bytes) refl n) refl

module _ (bytes text all part : List ℕ) (behind : ℕ) (same : text ≡ bytes) (utf8 : IsUtf8 bytes) (decoded : all ≡ chars text) (spelling : part ≡ unquoted_body all) (rest : behind ≡ closing (strip_quotes all)) where
  body_is : all ≡ chars bytes
  body_is = decoded ∙ ap chars same

  pub body_is_read : (out : Result (List ℕ) (Stop FaultKind)) → read_whole_text read_unquoted_value part ≡ out → read_body_text bytes ≡ body_result (chars bytes) bytes out
  body_is_read out h =
      let yes : is_utf8 bytes ≡ true = is_utf8-from_IsUtf8 bytes utf8 in
      let read : read_whole_text read_unquoted_value (unquoted_body (chars bytes)) ≡ out = ap (read_whole_text read_unquoted_value) (sym (spelling ∙ ap unquoted_body body_is)) ∙ h in
      rw yes (ap (body_result (chars bytes) bytes) read)

  pub body_ok_told : (value : List ℕ) → read_whole_text read_unquoted_value part ≡ Ok value → (let answer : Result (List ℕ) ValueFault = Ok value in answer ≡ read_body_text bytes)
  body_ok_told value h = sym (body_is_read (Ok value) h)

  at_place : (left : List ℕ) → byte_offset bytes left - behind ≡ body_offset (chars bytes) bytes left
  at_place left = ap (λ (z : ℕ). byte_offset bytes left - z) (rest ∙ ap (λ (z : List ℕ). closing (strip_quotes z)) body_is)

  abbrev BodyTells : ReadError ValueFault → Type 0
  BodyTells error = let answer : Result (List ℕ) (ReadError ValueFault) = Err error in ResultSatisfies (λ answer. answer ≡ read_body_text bytes) answer

  no_value : (left : List ℕ) (error : ReadError ValueFault) → error ≡ errors.Fault (bodies.NotValue (byte_offset bytes left - behind)) → error ≡ errors.Fault (bodies.NotValue (body_offset (chars bytes) bytes left))
  no_value left error f = f ∙ ap (λ (n : ℕ). let z : ReadError ValueFault = errors.Fault (bodies.NotValue n) in z) (at_place left)

  pub body_fault_told : (stop : CodeStop) (error : ReadError ValueFault) → IsSameStop stop (read_whole_text read_unquoted_value part) → IsBodyErrorOfStop bytes behind stop error → BodyTells error
  body_fault_told (stops.Syntax left) error h f = subst BodyTells (sym (no_value (chars left.now) error f)) (sym (body_is_read (Err (Syntax (chars left.now))) h))
  body_fault_told (stops.Faulty kind left) error h f = subst BodyTells (sym (no_value (chars left.now) error f)) (sym (body_is_read (Err (Faulty kind (chars left.now))) h))
  body_fault_told stops.Memory error h f = subst BodyTells (sym f) tt
