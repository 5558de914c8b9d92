-- A body spells Chars.
use Rattle.std.proofs.Common.{◌≡◌, ℕ, true, List, [], ◌∷◌, Result, Ok, Err, inl, inr, sym, ap, subst, ◌∙◌}
use Rattle.std.specs.Prelude.{IfOk, IsTrue}
use Rattle.std.specs.Str.{chars}
use Rattle.xml_names.specs.Characters.{is_char, has_only_chars}
use Rattle.xml_grammar.specs.Rules.{AllPass, SpellsEach, char_run, sequence, atomic}
use Rattle.xml_grammar.specs.TextReading.{Stop, Syntax, Faulty}
use Rattle.xml_grammar.specs.ParseResults.{IsParseResult}
use Rattle.xml_grammar.proofs.Fronts.{pass_append}
use Rattle.xml_tokens.specs.declared.fault_kind.FaultKind.{FaultKind}
use Rattle.tree_text.specs.declared.fault.ValueFault.{ValueFault}
use Rattle.xml_names.specs.declared.read_error.ReadError.{ReadError}
use Rattle.tree_text.specs.FaultKinds.{fault_ranking}
use Rattle.xml_tokens.specs.Values.{normalize_line_ends, normalized_raw, pieces_value}
use Rattle.xml_tokens.specs.Tokens.{is_raw_char, reference}
use Rattle.tree_text.specs.Grammar.{unquoted_value}
use Rattle.tree_text.specs.Faults.{unquoted_body, body_result, IsBodyResult}
use Rattle.xml_names.specs.ReadErrors.{ResultSatisfies}
use Rattle.xml_tokens.proofs.CharacterTests.{pass_all}
use Rattle.tree_text.proofs.ProperTags.{weaker, raw_char, lines_chars, blanks_chars, reference_char}

raw_chars : (cs : List ℕ) → AllPass is_raw_char cs → AllPass is_char (normalized_raw cs)
raw_chars cs h = blanks_chars (normalize_line_ends cs) (lines_chars cs (weaker is_raw_char is_char raw_char cs h))

more_chars : (xs : List (ℕ × List ℕ)) (v : List ℕ) → SpellsEach (sequence (atomic reference) (λ _. char_run {Kind = FaultKind} is_raw_char)) xs v → AllPass is_char (pieces_value xs)
more_chars [] v m = tt
more_chars ((c, cs) ∷ xs) v m =
    let k = m.front_is in
    (reference_char k.front c k.front_is, pass_append is_char (normalized_raw cs) (pieces_value xs) (raw_chars cs (subst (AllPass is_raw_char) (sym k.back_is.1) k.back_is.0)) (more_chars xs m.back m.back_is))

spelling_chars : (u cs : List ℕ) → unquoted_value.Spells u cs → AllPass is_char cs
spelling_chars u cs m = subst (AllPass is_char) (sym m.2) (pass_append is_char (normalized_raw m.0.0) (pieces_value m.0.1) (raw_chars m.0.0 (subst (AllPass is_raw_char) (sym m.1.front_is.1) m.1.front_is.0)) (more_chars m.0.1 m.1.back m.1.back_is))

stated_chars : (bytes value : List ℕ) (stated : Result (List ℕ) (Stop FaultKind)) → IsParseResult (fault_ranking 0) unquoted_value (unquoted_body (chars bytes)) stated → (let answer : Result (List ℕ) ValueFault = Ok value in answer ≡ body_result (chars bytes) bytes stated) → has_only_chars value ≡ true
stated_chars bytes value (Ok v) h e = let i : value ≡ v = cc in ap has_only_chars i ∙ pass_all is_char v (spelling_chars (unquoted_body (chars bytes)) v h.spelled)
stated_chars bytes value (Err (Syntax left)) h e = absurd cc
stated_chars bytes value (Err (Faulty kind left)) h e = absurd cc

answer_chars : (bytes value : List ℕ) → IsBodyResult bytes (Ok value) → has_only_chars value ≡ true
answer_chars bytes value (inl a) = stated_chars bytes value a.1.stated a.1.by_grammar a.1.is_told
answer_chars bytes value (inr a) = let e = a.1 in absurd cc

-- A value that is read consists of Chars.
pub body_good : (bytes : List ℕ) (r : Result (List ℕ) (ReadError ValueFault)) → ResultSatisfies (IsBodyResult bytes) r → IfOk r (λ value. IsTrue (has_only_chars value))
body_good bytes (Ok value) h = answer_chars bytes value h
body_good bytes (Err e) h = tt
