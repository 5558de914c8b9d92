-- The reading of a selector's text is what the grammar says, and nothing else is.
use Rattle.std.proofs.Common.{◌≡◌, ℕ, true, cond, List, [], ◌∷◌, Option, Some, None, is_some, Result, Ok, Err, refl, sym, ap, ◌∙◌, subst, encode_utf8_all, arith}
use Rattle.std.specs.Prelude.{unwrap_or}
use Rattle.std.specs.Str.{chars}
use Rattle.std.proofs.lemmas.Bool.Decides.{nat_tests}
use Rattle.std.proofs.lemmas.Str.{chars-encodes}
use lib.Utf8.{scalar, scalars}
use Rattle.xml_grammar.specs.TextReading.{Stop}
use Rattle.xml_grammar.specs.readers.RuleReaders.{read_whole_text}
use Rattle.xml_tokens.specs.declared.fault_kind.FaultKind.{FaultKind}
use Rattle.tree_text.proofs.PrintedValues.{both as parts}
use Rattle.xml_names.specs.Characters.{has_only_chars, is_char}
use Rattle.xml_names.specs.Scopes.{in_scope_bindings, bound_uri}
use Rattle.xml_names.specs.declared.names.Decl.{Decl}
use Rattle.node_select.specs.Faults.{IsPatchFormAnswer, IsPatchSelectorAnswer}
use Rattle.node_select.specs.declared.fault.SelectorFault.{SelectorFault}
use Rattle.node_select.specs.declared.selector.PatchSelector.{PatchSelector}
use Rattle.node_select.specs.readers.RawSelectors.{RawPatchSelector, first_unbound_in_patch, resolved_patch_selector}
use Rattle.node_select.specs.readers.Selectors.{read_patch_selector}
use Rattle.node_select.specs.readers.WholeSelectors.{resolved_or_unbound, parsed_patch_selector, patch_result, raw_form_if_parsed}
use Rattle.node_select.proofs.ExactSelectors.{one_patch_selector, patch_selector_answer}
use Rattle.node_select.proofs.PatchForms.{form_answer, one_form}
use Rattle.patch_rules.specs.Selectors.{IsSelectorReader, IsSelectorReading, Reading, selector_if_ok}
use Rattle.patch_rules.specs.readers.AppliedOperations.{selector_reading, reading_of, reading_if_parsed}
use Rattle.patch_laws.specs.SelectedNodes.{SelectorReadsAs}
use Rattle.patch_laws.proofs.Prefixes.{both}

scalar_char : (c : ℕ) → is_char c ≡ true → scalar c ≡ true
scalar_char c h = grind (arith, nat_tests)

all_scalars : (cs : List ℕ) → has_only_chars cs ≡ true → scalars cs ≡ true
all_scalars [] h = refl
all_scalars (c ∷ cs) h = let b = parts (is_char c) (has_only_chars cs) h in both (scalar c) (scalars cs) (scalar_char c b.0) (all_scalars cs b.1)

taken : (c : List (List Decl)) (sel bytes : List ℕ) (r : Result RawPatchSelector (Stop FaultKind)) → read_whole_text read_patch_selector sel ≡ r → SelectorReadsAs c sel (patch_result (in_scope_bindings c) (unwrap_or (bound_uri c []) []) bytes r)
taken c sel bytes (Err stop) e = ap reading_if_parsed e
taken c sel bytes (Ok raw) e = by (first_unbound_in_patch (in_scope_bindings c) raw) refl
  where
    by : (o : Option ℕ) → first_unbound_in_patch (in_scope_bindings c) raw ≡ o → SelectorReadsAs c sel (resolved_or_unbound bytes o (resolved_patch_selector (in_scope_bindings c) (unwrap_or (bound_uri c []) []) raw))
    by None f = (reading_of raw, ap reading_if_parsed e, rw f refl)
    by (Some n) f = (reading_of raw, ap reading_if_parsed e, rw f refl)

module _ (sel : List ℕ) (h : has_only_chars sel ≡ true) where
  abbrev bytes : List ℕ
  bytes = encode_utf8_all sel

  letters : chars (encode_utf8_all sel) ≡ sel
  letters = chars-encodes sel (all_scalars sel h)

  pub taken_as_answered : (c : List (List Decl)) → (answer : Result PatchSelector SelectorFault) × IsPatchSelectorAnswer (in_scope_bindings c) (unwrap_or (bound_uri c []) []) bytes answer × SelectorReadsAs c sel answer
  taken_as_answered c =
      let bindings = in_scope_bindings c in
      let default = unwrap_or (bound_uri c []) [] in (
        parsed_patch_selector bindings default bytes,
        patch_selector_answer bindings default bytes,
        subst (λ (l : List ℕ). SelectorReadsAs c sel (patch_result bindings default bytes (read_whole_text read_patch_selector l))) (sym letters) (taken c sel bytes (read_whole_text read_patch_selector sel) refl),
      )

  -- ---- the reading is what the grammar says

  form_read : IsPatchFormAnswer bytes (raw_form_if_parsed (read_whole_text read_patch_selector sel))
  form_read = subst (λ (l : List ℕ). IsPatchFormAnswer bytes (raw_form_if_parsed (read_whole_text read_patch_selector l))) letters (form_answer bytes)

  meaning_read : (c : List (List Decl)) → IsPatchSelectorAnswer (in_scope_bindings c) (unwrap_or (bound_uri c []) []) bytes (patch_result (in_scope_bindings c) (unwrap_or (bound_uri c []) []) bytes (read_whole_text read_patch_selector sel))
  meaning_read c =
      let bindings = in_scope_bindings c in
      let default = unwrap_or (bound_uri c []) [] in
      subst (λ (l : List ℕ). IsPatchSelectorAnswer bindings default bytes (patch_result bindings default bytes (read_whole_text read_patch_selector l))) letters (patch_selector_answer bindings default bytes)

  told_meaning : (o : Option ℕ) (s : PatchSelector) → cond (is_some o) None (Some s) ≡ selector_if_ok (resolved_or_unbound bytes o s)
  told_meaning None s = refl
  told_meaning (Some n) s = refl

  told : (r : Result RawPatchSelector (Stop FaultKind)) → IsPatchFormAnswer bytes (raw_form_if_parsed r)
      → ((c : List (List Decl)) → IsPatchSelectorAnswer (in_scope_bindings c) (unwrap_or (bound_uri c []) []) bytes (patch_result (in_scope_bindings c) (unwrap_or (bound_uri c []) []) bytes r)) → IsSelectorReading sel (reading_if_parsed r)
  told (Err stop) form means = form
  told (Ok raw) form means = (
    form,
    λ c. (
      patch_result (in_scope_bindings c) (unwrap_or (bound_uri c []) []) bytes (Ok raw),
      means c,
      told_meaning (first_unbound_in_patch (in_scope_bindings c) raw) (resolved_patch_selector (in_scope_bindings c) (unwrap_or (bound_uri c []) []) raw),
    ),
  )

  reading_is : IsSelectorReading sel (selector_reading sel)
  reading_is = told (read_whole_text read_patch_selector sel) form_read meaning_read

pub are_readings : IsSelectorReader selector_reading
are_readings sel h = reading_is sel h

-- ---- and nothing else

-- the meaning of a text in a scope
abbrev MeansIn : List ℕ → List (List Decl) → Option PatchSelector → Type 0
MeansIn sel c meaning =
    (answer : Result PatchSelector SelectorFault) × IsPatchSelectorAnswer (in_scope_bindings c) (unwrap_or (bound_uri c []) []) (encode_utf8_all sel) answer
    × (meaning ≡ selector_if_ok answer)

module _ (sel : List ℕ) where
  same_means : (c : List (List Decl)) (m n : Option PatchSelector) → MeansIn sel c m → MeansIn sel c n → m ≡ n
  same_means c m n x y = x.2 ∙ ap selector_if_ok (one_patch_selector (in_scope_bindings c) (unwrap_or (bound_uri c []) []) (encode_utf8_all sel) x.0 y.0 x.1 y.1) ∙ sym y.2

  none_or_some : (r : Reading) → IsPatchFormAnswer (encode_utf8_all sel) None → IsPatchFormAnswer (encode_utf8_all sel) (Some r.ends) → ⊥
  none_or_some r x y = let never : None ≡ Some r.ends = one_form (encode_utf8_all sel) None (Some r.ends) x y in absurd cc

  same_ends : (r s : Reading) → IsPatchFormAnswer (encode_utf8_all sel) (Some r.ends) → IsPatchFormAnswer (encode_utf8_all sel) (Some s.ends) → r.ends ≡ s.ends
  same_ends r s x y = let same : Some r.ends ≡ Some s.ends = one_form (encode_utf8_all sel) (Some r.ends) (Some s.ends) x y in cc

  pub one_reading : (a b : Option Reading) → IsSelectorReading sel a → IsSelectorReading sel b → a ≡ b
  one_reading None None x y = refl
  one_reading None (Some s) x y = absurd (none_or_some s x y.0)
  one_reading (Some r) None x y = absurd (none_or_some r y x.0)
  one_reading (Some r) (Some s) x y =
      let ends = same_ends r s x.0 y.0 in
      let means : (c : List (List Decl)) → r.means c ≡ s.means c = λ c. same_means c (r.means c) (s.means c) (x.1 c) (y.1 c) in
      λ i. Some (record { ends = ends i; means = λ c. means c i })
