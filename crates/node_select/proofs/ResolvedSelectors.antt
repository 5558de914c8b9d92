-- A selector that is read with widths and then resolved equals the one that is read with each
-- name resolved at its place.
use Rattle.std.proofs.Common.{◌≡◌, ℕ, zero, suc, ◌+◌, ◌-◌, Bool, true, false, cond, List, [], ◌∷◌, length, Result, Ok, Err, refl, sym, ap, ◌∙◌, arith}
use Rattle.std.specs.Prelude.{Option, None, Some, option_map, nat_eq, map}
use Rattle.xml_grammar.specs.Rules.{word, keep_second, filter_rule}
use Rattle.xml_grammar.specs.TextReading.{Stop, Syntax, Reader, ◌>>=◌, read_word, read_sequence, read_mapped}
use Rattle.xml_grammar.specs.readers.RuleReaders.{read_with_length, read_filtered, read_optional, read_second}
use Rattle.xml_grammar.proofs.Exact.{Exact}
use Rattle.xml_grammar.proofs.Leaves.{exact_word}
use Rattle.xml_grammar.proofs.ClosedRules.{exact_only, heads_unless}
use Rattle.xml_grammar.proofs.Shapes.{exact_behind}
use Rattle.xml_grammar.proofs.Whole.{ends, heads_ends}
use Rattle.xml_names.specs.declared.names.Name.{Name}
use Rattle.xml_names.specs.declared.names.Decl.{Decl}
use Rattle.xml_tokens.specs.declared.fault_kind.FaultKind.{FaultKind}
use Rattle.xml_tokens.specs.Tokens.{qname}
use Rattle.xml_tokens.specs.readers.Tokens.{read_qname}
use Rattle.node_select.specs.declared.selector.NameTest.TheVariants.{Any}
use Rattle.node_select.specs.declared.selector.Step.{Step}
use Rattle.node_select.specs.declared.selector.End.TheVariants.{Namespaces}
use Rattle.node_select.specs.declared.selector.PatchSelector.{PatchSelector}
use Rattle.node_select.specs.declared.selector.PatchEnd.TheVariants as patch_ends
use Rattle.node_select.specs.readers.SelectorValues
use Rattle.node_select.specs.Grammar.{position, value, is_attribute_name}
use Rattle.node_select.specs.readers.Literals.{slash, star, at_sign, open_bracket, close_bracket, equals_sign, namespaces, text_test}
use Rattle.node_select.specs.readers.RawSelectors
use Rattle.node_select.specs.readers.RawSelectors.{RawStep, RawEnd, AtAttribute, AtNamespaces, RawPatchEnd, PatchAttribute, PatchChars, first_some, unbound_at, unbound_name, unbound_test, unbound_in_step, unbound_in_steps, unbound_end, unbound_patch_end, no_unbound_end, name_test, steps_size, slash_width}
use Rattle.node_select.specs.readers.Selectors.{star_follows, read_node_name, position_follows, read_position, read_attribute, read_value, test_follows, read_test, read_step, slash_follows, step_follows, patch_step_follows, read_next_step, read_steps, attribute_follows, read_end, read_selector, read_patch_end, read_patch_selector}
use Rattle.node_select.specs.Faults.{fault_ranking}
use Rattle.node_select.proofs.WidthReading.{Follows, no_name, if_some, plain, name, valued, sized, left, right, either, optional, sequence, many, first_none}
use Rattle.node_select.proofs.ExactParts.{in_qname, exact_qname, lawful_qname, exact_value, exact_position}
use Rattle.node_select.proofs.NameReading.{judged_node_name, judged_attribute, judged_test, judged_step, judged_next, judged_steps, judged_end, judged_selector, judged_patch_end, judged_patch_selector}
use Rattle.node_select.proofs.UnboundPlaces.{steps_then_end}
use Rattle.node_select.proofs.Widths.{step_fills, next_fills, steps_wide}

-- ---- widths

word_by : (b : Bool) (c : ℕ) (cs text : List ℕ) (x : Unit {0} × List ℕ) → ((y : Unit {0} × List ℕ) → read_word {Kind = FaultKind} cs text ≡ Ok y → length cs + length y.1 ≡ length text)
    → cond b (read_word {Kind = FaultKind} cs text) (Err (Syntax (c ∷ text))) ≡ Ok x → length cs + length x.1 ≡ length text
word_by true c cs text x h e = h x e
word_by false c cs text x h e = absurd cc

word_wide : (w text : List ℕ) (x : Unit {0} × List ℕ) → read_word {Kind = FaultKind} w text ≡ Ok x → length w + length x.1 ≡ length text
word_wide [] text x e = let same : (tt, text) ≡ x = cc in let left = ap (λ (z : Unit {0} × List ℕ). length z.1) same in omega (arith, left)
word_wide (c ∷ cs) [] x e = absurd cc
word_wide (c ∷ cs) (d ∷ text) x e = let h = word_by (nat_eq c d) d cs text x (λ y f. word_wide cs text y f) e in omega (arith, h)

sized_by : {A : Type 0} (n : ℕ) (out : Result (A × List ℕ) (Stop FaultKind)) (z : (A × ℕ) × List ℕ) → out >>= (λ x. Ok ((x.0, n - length x.1), x.1)) ≡ Ok z → z.0.1 ≡ n - length z.1
sized_by {A} n (Ok x) z e =
    let r : (let p : Result ((A × ℕ) × List ℕ) (Stop FaultKind) = Ok ((x.0, n - length x.1), x.1) in p ≡ Ok z) = e in
    let same : ((x.0, n - length x.1), x.1) ≡ z = cc in
    sym (ap (λ (y : (A × ℕ) × List ℕ). y.0.1) same) ∙ ap (λ (y : (A × ℕ) × List ℕ). n - length y.1) same
sized_by n (Err y) z e = absurd cc

sized_wide : {A : Type 0} (p : Reader FaultKind A) (text : List ℕ) (z : (A × ℕ) × List ℕ) → read_with_length p text ≡ Ok z → z.0.1 ≡ length text - length z.1
sized_wide p text z e = sized_by (length text) (p text) z e

slash_by : (b : Bool) (text : List ℕ) (out : Result (Unit {0} × List ℕ) (Stop FaultKind)) (z : ℕ × List ℕ) → ((y : Unit {0} × List ℕ) → out ≡ Ok y → 1 + length y.1 ≡ length text)
    → cond b (out >>= λ x. let r : Result (Option (Unit {0}) × List ℕ) (Stop FaultKind) = Ok (Some x.0, x.1) in r) (Ok (None, text)) >>= (λ x. let r : Result (ℕ × List ℕ) (Stop FaultKind) = Ok (slash_width x.0, x.1) in r) ≡ Ok z → z.0 + length z.1 ≡ length text
slash_by true text (Ok y) z h e =
    let same : (1, y.1) ≡ z = one (1, y.1) z e in
    let left = ap (λ (x : ℕ × List ℕ). x.0 + length x.1) same in
    sym left ∙ h y refl
  where
    one : (x z : ℕ × List ℕ) → (let r : Result (ℕ × List ℕ) (Stop FaultKind) = Ok x in r ≡ Ok z) → x ≡ z
    one x z e = cc
slash_by true text (Err y) z h e = absurd cc
slash_by false text out z h e =
    let same : (0, text) ≡ z = one (0, text) z e in
    let left = ap (λ (x : ℕ × List ℕ). x.0 + length x.1) same in
    omega (arith, left)
  where
    one : (x z : ℕ × List ℕ) → (let r : Result (ℕ × List ℕ) (Stop FaultKind) = Ok x in r ≡ Ok z) → x ≡ z
    one x z e = cc

slash_wide : (text : List ℕ) (z : ℕ × List ℕ) → read_mapped {Kind = FaultKind} slash_width (read_optional slash_follows (read_word slash)) text ≡ Ok z → z.0 + length z.1 ≡ length text
slash_wide text z e = slash_by (slash_follows text) text (read_word slash text) z (λ y f. word_wide slash text y f) e

option_same : {A : Type 0} (o : Option A) → option_map (λ a. a) o ≡ o
option_same None = refl
option_same (Some a) = refl

if_none : {A : Type 0} (on : Bool) (whole : List ℕ) (n : ℕ) (o : Option A) → if_some on whole (no_name on whole) n o ≡ None
if_none on whole n None = refl
if_none on whole n (Some a) = refl

module _ (bindings : List Decl) (default : List ℕ) (on : Bool) (whole : List ℕ) where
  -- ---- the leaves
  word_follows : (w : List ℕ) → Follows on whole (read_word w) (read_word w) (λ a. a) (no_name on whole)
  word_follows w = let e : Exact (fault_ranking on) (word w) (λ _. ends) (read_word w) = exact_word in plain on whole e

  equals_follows : Follows on whole (read_second (read_word equals_sign) read_value) (read_second (read_word equals_sign) read_value) (λ a. a) (no_name on whole)
  equals_follows = let e : Exact (fault_ranking on) (keep_second (word equals_sign) value) (λ _. ends) (read_second (read_word equals_sign) read_value) = exact_behind exact_word exact_value in plain on whole e

  position_follows_so : Follows on whole (read_optional position_follows read_position) (read_optional position_follows read_position) (option_map (λ a. a)) (if_some on whole (no_name on whole))
  position_follows_so = let e : Exact (fault_ranking on) position (λ _. ends) read_position = exact_position in optional on whole position_follows (plain on whole e)

  patch_position : Follows on whole (read_optional test_follows read_position) (read_optional test_follows read_position) (option_map (λ a. a)) (if_some on whole (no_name on whole))
  patch_position = let e : Exact (fault_ranking on) position (λ _. ends) read_position = exact_position in optional on whole test_follows (plain on whole e)

  qname_exact : Exact (fault_ranking on) qname (λ _. ends) read_qname
  qname_exact = exact_qname heads_ends

  attribute_exact : Exact (fault_ranking on) (filter_rule is_attribute_name qname) (λ _. ends) (read_filtered is_attribute_name read_qname)
  attribute_exact = exact_only is_attribute_name in_qname lawful_qname (λ _. heads_ends) (exact_qname heads_unless) (exact_qname heads_ends)

  -- ---- steps
  node_name_follows : Follows on whole read_node_name (judged_node_name bindings default on) (name_test bindings default) (unbound_name bindings)
  node_name_follows =
      either on whole star_follows
      (valued on whole (word_follows star) (λ _. None) (λ _. Any) (name_test bindings default) (unbound_name bindings) (λ a. refl) (λ n a. refl))
      (valued on whole (name on whole bindings (λ u n m. m) qname_exact) (λ a. Some a) (SelectorValues.element_test bindings default) (name_test bindings default) (unbound_name bindings) (λ a. refl) (λ n a. refl))

  attribute_follows_so : Follows on whole read_attribute (judged_attribute bindings default on) (λ a. a) (λ n a. unbound_at bindings (n + 1) a)
  attribute_follows_so =
      valued on whole
      (sequence on whole (word_follows at_sign) (name on whole bindings (λ u n m. m.0) attribute_exact) (λ n x. unbound_at bindings (n + 1) x.1)
      (λ n w text rest a c e fills. let one : n + 1 ≡ n + w = omega (arith, word_wide at_sign text (a, rest) e, fills) in ap (λ (k : ℕ). unbound_at bindings k c) one))
      (λ x. x.1) (λ x. x.1) (λ a. a) (λ n a. unbound_at bindings (n + 1) a) (λ x. refl) (λ n x. refl)

  tested_follows : Follows on whole (read_sequence read_attribute (λ _. read_second (read_word equals_sign) read_value))
      (read_mapped (SelectorValues.attr_test bindings default) (read_sequence (judged_attribute bindings default on) (λ _. read_second (read_word equals_sign) read_value))) (RawSelectors.attr_test bindings) (λ n x. unbound_at bindings (n + 1) x.0)
  tested_follows =
      right on whole
      (sequence on whole attribute_follows_so equals_follows (λ n x. unbound_at bindings (n + 1) x.0) (λ n w text rest a c e fills. sym (first_none (unbound_at bindings (n + 1) a))))
      (SelectorValues.attr_test bindings default) (RawSelectors.attr_test bindings) (λ x. refl)

  test_follows_so : Follows on whole read_test (judged_test bindings default on) (RawSelectors.attr_test bindings) (λ n x. unbound_at bindings (n + 2) x.0)
  test_follows_so =
      valued on whole
      (sequence on whole (word_follows open_bracket)
      (valued on whole
      (sequence on whole tested_follows (word_follows close_bracket) (λ n x. unbound_at bindings (n + 1) x.0.0) (λ n w text rest a c e fills. sym (first_none (unbound_at bindings (n + 1) a.0))))
      (λ x. x.0) (λ x. x.0) (RawSelectors.attr_test bindings) (λ n x. unbound_at bindings (n + 1) x.0) (λ x. refl) (λ n x. refl))
      (λ n x. unbound_at bindings (n + 2) x.1.0)
      (λ n w text rest a c e fills. let two : n + 2 ≡ n + w + 1 = omega (arith, word_wide open_bracket text (a, rest) e, fills) in ap (λ (k : ℕ). unbound_at bindings k c.0) two))
      (λ x. x.1) (λ x. x.1) (RawSelectors.attr_test bindings) (λ n x. unbound_at bindings (n + 2) x.0) (λ x. refl) (λ n x. refl)

  behind_front : (n w k : ℕ) (o : Option (Name × List ℕ)) → k ≡ w → unbound_test bindings (n + k + 2) o ≡ if_some on whole (λ m x. unbound_at bindings (m + 2) x.0) (n + w) o
  behind_front n w k None e = refl
  behind_front n w k (Some x) e = ap (λ (m : ℕ). unbound_at bindings (n + m + 2) x.0) e

  step_follows_so : Follows on whole read_step (judged_step bindings default on) (RawSelectors.resolved_step bindings default) (unbound_in_step bindings)
  step_follows_so =
      valued on whole
      (sized on whole
      (sequence on whole
      (sized on whole (sequence on whole node_name_follows position_follows_so (λ n x. unbound_name bindings n x.0)
      (λ n w text rest a c e fills. sym (ap (first_some (unbound_name bindings n a)) (if_none on whole (n + w) c) ∙ first_none (unbound_name bindings n a)))))
      (optional on whole test_follows test_follows_so)
      (λ n x. first_some (unbound_name bindings n x.0.0.0) (unbound_test bindings (n + x.0.1 + 2) x.1))
      (λ n w text rest a c e fills.
      let front : a.1 ≡ w = omega (arith, sized_wide (read_sequence read_node_name (λ _. read_optional position_follows read_position)) text (a, rest) e, fills) in
      ap (first_some (unbound_name bindings n a.0.0)) (behind_front n w a.1 c front))))
      RawSelectors.raw_step_of SelectorValues.step_from_parts (RawSelectors.resolved_step bindings default) (unbound_in_step bindings)
      (λ x. ap (λ (o : Option ℕ). let s : Step = record { name = name_test bindings default x.0.0.0.0; position = o; test = option_map (RawSelectors.attr_test bindings) x.0.1 } in s) (option_same x.0.0.0.1))
      (λ n x. refl)

  next_follows : Follows on whole read_next_step (judged_next bindings default on) (RawSelectors.resolved_step bindings default) (λ n s. unbound_in_step bindings (n + 1) s)
  next_follows =
      valued on whole
      (sequence on whole (word_follows slash) step_follows_so (λ n x. unbound_in_step bindings (n + 1) x.1)
      (λ n w text rest a c e fills. let one : n + 1 ≡ n + w = omega (arith, word_wide slash text (a, rest) e, fills) in ap (λ (k : ℕ). unbound_in_step bindings k c) one))
      (λ x. x.1) (λ x. x.1) (RawSelectors.resolved_step bindings default) (λ n s. unbound_in_step bindings (n + 1) s) (λ x. refl) (λ n x. refl)

  steps_same : (ss : List RawStep) → map (RawSelectors.resolved_step bindings default) ss ≡ RawSelectors.resolved_steps bindings default ss
  steps_same [] = refl
  steps_same (s ∷ ss) = ap (λ (l : List Step). RawSelectors.resolved_step bindings default s ∷ l) (steps_same ss)

  steps_follows : (follows : List ℕ → Bool) → Follows on whole (read_steps follows) (judged_steps bindings default on follows) (RawSelectors.resolved_steps bindings default) (λ n ss. unbound_in_steps bindings n ss no_unbound_end)
  steps_follows follows =
      valued on whole
      (sequence on whole step_follows_so
      (many on whole next_follows follows (λ n ss. unbound_in_steps bindings (n + 1) ss no_unbound_end) (λ n. refl)
      (λ n w text rest a others e fills.
      let place : n + 1 + a.size + 1 ≡ n + w + 1 = omega (arith, (next_fills text a rest e).0, fills) in
      ap (λ (k : ℕ). first_some (unbound_in_step bindings (n + 1) a) (unbound_in_steps bindings k others no_unbound_end)) place))
      (λ n x. unbound_in_steps bindings n (x.0 ∷ x.1) no_unbound_end)
      (λ n w text rest a others e fills.
      let place : n + a.size + 1 ≡ n + w + 1 = omega (arith, (step_fills text a rest e).sizes, fills) in
      ap (λ (k : ℕ). first_some (unbound_in_step bindings n a) (unbound_in_steps bindings k others no_unbound_end)) place))
      SelectorValues.steps_from_parts SelectorValues.steps_from_parts (RawSelectors.resolved_steps bindings default) (λ n ss. unbound_in_steps bindings n ss no_unbound_end)
      (λ x. ap (λ (l : List Step). RawSelectors.resolved_step bindings default x.0 ∷ l) (steps_same x.1)) (λ n x. refl)

  -- ---- selectors
  behind_at : (n : ℕ) (a : Name) → unbound_at bindings (n + 1) a ≡ unbound_at bindings (suc n) a
  behind_at n a = let e : n + 1 ≡ suc n = omega arith in ap (λ (k : ℕ). unbound_at bindings k a) e

  end_follows : Follows on whole read_end (judged_end bindings default on) (RawSelectors.resolved_end bindings) (λ n e. unbound_end bindings e n)
  end_follows =
      either on whole attribute_follows
      (valued on whole attribute_follows_so (λ a. AtAttribute a) (SelectorValues.attribute_end bindings default) (RawSelectors.resolved_end bindings) (λ n e. unbound_end bindings e n) (λ a. refl) (λ n a. behind_at n a))
      (valued on whole (word_follows namespaces) (λ _. AtNamespaces) (λ _. Namespaces) (RawSelectors.resolved_end bindings) (λ n e. unbound_end bindings e n) (λ a. refl) (λ n a. refl))

  end_same : (o : Option RawEnd) → SelectorValues.end_or_element (option_map (RawSelectors.resolved_end bindings) o) ≡ RawSelectors.resolved_end bindings (RawSelectors.raw_end_or_element o)
  end_same None = refl
  end_same (Some e) = refl

  end_place : (n : ℕ) (o : Option RawEnd) → if_some on whole (λ m e. unbound_end bindings e (m + 1)) n o ≡ unbound_end bindings (RawSelectors.raw_end_or_element o) (n + 1)
  end_place n None = refl
  end_place n (Some e) = refl

  tail_follows : Follows on whole (read_mapped RawSelectors.raw_end_or_element (read_optional slash_follows (read_second (read_word slash) read_end)))
      (read_mapped SelectorValues.end_or_element (read_optional slash_follows (read_second (read_word slash) (judged_end bindings default on)))) (RawSelectors.resolved_end bindings) (λ n e. unbound_end bindings e (n + 1))
  tail_follows =
      valued on whole
      (optional on whole slash_follows
      (valued on whole
      (sequence on whole (word_follows slash) end_follows (λ n x. unbound_end bindings x.1 (n + 1))
      (λ n w text rest a c e fills. let one : n + 1 ≡ n + w = omega (arith, word_wide slash text (a, rest) e, fills) in ap (λ (k : ℕ). unbound_end bindings c k) one))
      (λ x. x.1) (λ x. x.1) (RawSelectors.resolved_end bindings) (λ n e. unbound_end bindings e (n + 1)) (λ x. refl) (λ n x. refl)))
      RawSelectors.raw_end_or_element SelectorValues.end_or_element (RawSelectors.resolved_end bindings) (λ n e. unbound_end bindings e (n + 1)) end_same end_place

  -- an end comes after the steps and a slash
  behind_steps : (follows : List ℕ → Bool) (n w : ℕ) (text rest : List ℕ) (ss : List RawStep) (end : ℕ → Option ℕ) → read_steps follows text ≡ Ok (ss, rest) → w + length rest ≡ length text
      → unbound_in_steps bindings n ss end ≡ first_some (unbound_in_steps bindings n ss no_unbound_end) (end (n + w + 1))
  behind_steps follows n w text rest ss end e fills =
      let place : n + steps_size ss ≡ n + w + 1 = omega (arith, steps_wide follows text (ss, rest) e, fills) in
      steps_then_end bindings n ss end ∙ ap (λ (k : ℕ). first_some (unbound_in_steps bindings n ss no_unbound_end) (end k)) place

  pub selector_follows : Follows on whole read_selector (judged_selector bindings default on) (RawSelectors.resolved_selector bindings default) (λ n x. unbound_in_steps bindings n x.0 (unbound_end bindings x.1))
  selector_follows =
      right on whole
      (sequence on whole (steps_follows step_follows) tail_follows (λ n x. unbound_in_steps bindings n x.0 (unbound_end bindings x.1))
      (λ n w text rest a c e fills. behind_steps step_follows n w text rest a (unbound_end bindings c) e fills))
      SelectorValues.selector_from_parts (RawSelectors.resolved_selector bindings default) (λ x. refl)

  -- ---- selectors of patches
  patch_end_follows : Follows on whole read_patch_end (judged_patch_end bindings default on) (RawSelectors.resolved_patch_end bindings) (λ n e. unbound_patch_end bindings e n)
  patch_end_follows =
      either on whole attribute_follows
      (valued on whole attribute_follows_so (λ a. PatchAttribute a) (SelectorValues.patch_attribute_end bindings default) (RawSelectors.resolved_patch_end bindings) (λ n e. unbound_patch_end bindings e n) (λ a. refl) (λ n a. behind_at n a))
      (valued on whole
      (valued on whole
      (sequence on whole (word_follows text_test) patch_position (λ n x. None) (λ n w text rest a c e fills. sym (if_none on whole (n + w) c)))
      (λ x. x.1) (λ x. x.1) (option_map (λ a. a)) (λ n o. None) (λ x. refl) (λ n x. refl))
      (λ o. PatchChars o) (λ o. patch_ends.Chars o) (RawSelectors.resolved_patch_end bindings) (λ n e. unbound_patch_end bindings e n) (λ o. ap (λ (z : Option ℕ). patch_ends.Chars z) (option_same o)) (λ n o. refl))

  patch_end_same : (o : Option RawPatchEnd) → SelectorValues.patch_end_or_element (option_map (RawSelectors.resolved_patch_end bindings) o) ≡ RawSelectors.resolved_patch_end bindings (RawSelectors.raw_patch_end_or_element o)
  patch_end_same None = refl
  patch_end_same (Some e) = refl

  patch_end_place : (n : ℕ) (o : Option RawPatchEnd) → if_some on whole (λ m e. unbound_patch_end bindings e (m + 1)) n o ≡ unbound_patch_end bindings (RawSelectors.raw_patch_end_or_element o) (n + 1)
  patch_end_place n None = refl
  patch_end_place n (Some e) = refl

  patch_tail_follows : Follows on whole (read_mapped RawSelectors.raw_patch_end_or_element (read_optional slash_follows (read_second (read_word slash) read_patch_end)))
      (read_mapped SelectorValues.patch_end_or_element (read_optional slash_follows (read_second (read_word slash) (judged_patch_end bindings default on)))) (RawSelectors.resolved_patch_end bindings) (λ n e. unbound_patch_end bindings e (n + 1))
  patch_tail_follows =
      valued on whole
      (optional on whole slash_follows
      (valued on whole
      (sequence on whole (word_follows slash) patch_end_follows (λ n x. unbound_patch_end bindings x.1 (n + 1))
      (λ n w text rest a c e fills. let one : n + 1 ≡ n + w = omega (arith, word_wide slash text (a, rest) e, fills) in ap (λ (k : ℕ). unbound_patch_end bindings c k) one))
      (λ x. x.1) (λ x. x.1) (RawSelectors.resolved_patch_end bindings) (λ n e. unbound_patch_end bindings e (n + 1)) (λ x. refl) (λ n x. refl)))
      RawSelectors.raw_patch_end_or_element SelectorValues.patch_end_or_element (RawSelectors.resolved_patch_end bindings) (λ n e. unbound_patch_end bindings e (n + 1)) patch_end_same patch_end_place

  abbrev slash_there : ℕ → Option (Unit {0})
  slash_there zero = None
  slash_there (suc n) = Some tt

  slash_same : (o : Option (Unit {0})) → option_map (λ a. a) o ≡ slash_there (slash_width o)
  slash_same None = refl
  slash_same (Some t) = refl

  slash_follows_so : Follows on whole (read_mapped slash_width (read_optional slash_follows (read_word slash))) (read_optional slash_follows (read_word slash)) slash_there (no_name on whole)
  slash_follows_so = left on whole (optional on whole slash_follows (word_follows slash)) slash_width slash_there (no_name on whole) slash_same (λ n o. if_none on whole n o)

  abbrev patch_of : List RawStep × RawPatchEnd → PatchSelector
  patch_of x = record { steps = RawSelectors.resolved_steps bindings default x.0; end = RawSelectors.resolved_patch_end bindings x.1 }

  patch_parts : Follows on whole
      (read_sequence (read_steps patch_step_follows) (λ _. read_mapped RawSelectors.raw_patch_end_or_element (read_optional slash_follows (read_second (read_word slash) read_patch_end))))
      (read_mapped SelectorValues.patch_selector_from_parts (read_sequence (judged_steps bindings default on patch_step_follows) (λ _. read_mapped SelectorValues.patch_end_or_element (read_optional slash_follows (read_second (read_word slash) (judged_patch_end bindings default on))))))
      patch_of (λ n x. unbound_in_steps bindings n x.0 (unbound_patch_end bindings x.1))
  patch_parts =
      right on whole
      (sequence on whole (steps_follows patch_step_follows) patch_tail_follows (λ n x. unbound_in_steps bindings n x.0 (unbound_patch_end bindings x.1))
      (λ n w text rest a c e fills. behind_steps patch_step_follows n w text rest a (unbound_patch_end bindings c) e fills))
      SelectorValues.patch_selector_from_parts patch_of (λ x. refl)

  pub patch_selector_follows : Follows on whole read_patch_selector (judged_patch_selector bindings default on) (RawSelectors.resolved_patch_selector bindings default) (λ n x. unbound_in_steps bindings (n + x.0) x.1.0 (unbound_patch_end bindings x.1.1))
  patch_selector_follows =
      right on whole
      (sequence on whole slash_follows_so patch_parts (λ n x. unbound_in_steps bindings (n + x.0) x.1.0 (unbound_patch_end bindings x.1.1))
      (λ n w text rest a c e fills.
      let place : n + a ≡ n + w = omega (arith, slash_wide text (a, rest) e, fills) in
      ap (λ (k : ℕ). unbound_in_steps bindings k c.0 (unbound_patch_end bindings c.1)) place))
      (λ x. x.1) (RawSelectors.resolved_patch_selector bindings default) (λ x. refl)
