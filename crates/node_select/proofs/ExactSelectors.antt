-- Whole selectors are read exactly.
use Rattle.std.proofs.Common.{◌≡◌, ℕ, Bool, true, false, List, [], ◌∷◌, ◌++◌, length, drop, take, encode_utf8_all, ◌+◌, ◌-◌, Result, Ok, Err, ◌⊎◌, inl, inr, ⊎_elim, refl, sym, ap, ◌∙◌, subst, arith, append_assoc}
use Rattle.std.specs.Prelude.{◌||◌, not, ◌==◌, Option, None, Some}
use Rattle.std.proofs.lemmas.Bool.{eqb-true}
use Rattle.std.proofs.lemmas.List.{append_cancel_right, append_cancel_left, length-append, take-append-drop}
use Rattle.xml_names.specs.Characters.{is_name_start}
use Rattle.xml_grammar.specs.Rules.{Event, Begin, Mark, Rule, word, many, filter_rule, with_value_marks, optional, keep_second, map_rule}
use Rattle.xml_grammar.specs.TextReading.{Stop, Syntax, Faulty, ◌>>=◌, Reader, first_char_is, starts_with_word, read_word, read_mapped}
use Rattle.xml_grammar.specs.readers.RuleReaders.{require_end, read_second, read_optional, read_whole_text}
use Rattle.xml_grammar.specs.ParseResults.{IsParseResult, FaultRanking}
use Rattle.xml_grammar.proofs.Exact.{Rest, ahead, Exact, IsRead, IsStopped, exact_sequence}
use Rattle.xml_grammar.proofs.Leaves.{exact_word}
use Rattle.xml_grammar.proofs.Carry.{Idle, Covers, exact_valued, covers_either, covers_valued, covers_sequence}
use Rattle.xml_grammar.proofs.Heads.{Heads, Starts, Not, heads_starts, heads_optional, heads_valued, starts_word, starts_valued, starts_sequence, starts_covers, uses}
use Rattle.xml_grammar.proofs.Repeats.{exact_many, heads_many}
use Rattle.xml_grammar.proofs.Laws.{Lawful, Inside, inside_ahead, lawful_valued, lawful_sequence, lawful_optional, lawful_behind, lawful_word, lawful_either, lawful_many}
use Rattle.xml_grammar.proofs.LedRules.{led_word, led_behind, led_covers_rest, next_false, stopped_covers}
use Rattle.xml_grammar.proofs.Fronts.{starts_is}
use Rattle.xml_grammar.proofs.Shapes.{exact_behind, covers_by, covers_empty, covered_valued, covered_sequence, starts_behind}
use Rattle.xml_grammar.proofs.Tests.{exact_either_head, exact_optional_head, failed_covers, heads_covers}
use Rattle.xml_grammar.proofs.Whole.{ends, heads_ends, inside_ends, answers_whole, told_alike}
use Rattle.xml_names.specs.declared.names.Name.{Name}
use Rattle.xml_tokens.specs.declared.fault_kind.FaultKind.{FaultKind}
use Rattle.xml_tokens.specs.Tokens.{qname}
use Rattle.node_select.specs.declared.selector.NameTest.TheVariants.{Named}
use Rattle.node_select.specs.declared.selector.Step.{Step}
use Rattle.node_select.specs.declared.selector.End.{End}
use Rattle.node_select.specs.declared.selector.End.TheVariants.{Namespaces}
use Rattle.node_select.specs.declared.selector.PatchEnd.{PatchEnd}
use Rattle.node_select.specs.declared.selector.PatchEnd.TheVariants as patch_ends
use Rattle.node_select.specs.Grammar
use Rattle.node_select.specs.Grammar.{MarksUnboundName, is_attribute_name, position}
use Rattle.node_select.specs.readers.SelectorValues.{attribute_end, patch_attribute_end, steps_from_parts, end_or_element, selector_from_parts, patch_end_or_element, patch_selector_from_parts}
use Rattle.node_select.specs.readers.Literals.{slash, at_sign, namespaces, text_test}
use Rattle.node_select.specs.readers.Selectors.{step_follows, patch_step_follows, slash_follows, namespace_axis, text_call}
use Rattle.xml_names.specs.declared.names.Decl.{Decl}
use Rattle.node_select.specs.declared.selector.Selector.{Selector}
use Rattle.node_select.specs.declared.selector.PatchSelector.{PatchSelector}
use Rattle.std.specs.Str.{chars}
use Rattle.xml_names.specs.ReadErrors.{ResultSatisfies}
use Rattle.xml_names.specs.declared.read_error.ReadError.{ReadError}
use Rattle.xml_tokens.proofs.MemoryAnswers.{answered_so}
use Rattle.node_select.specs.declared.fault.SelectorFault.{SelectorFault}
use Rattle.node_select.specs.declared.fault.SelectorFault.TheVariants.{BadSelector, UnboundPrefix}
use Rattle.node_select.specs.readers.RawSelectors
use Rattle.node_select.specs.readers.Selectors as reader
use Rattle.node_select.specs.readers.WholeSelectors as raw
use Rattle.node_select.specs.readers.WholeSelectors.{resolved_or_unbound, parsed_selector, parsed_patch_selector}
use Rattle.node_select.specs.Faults.{fault_ranking, byte_offset, stop_offset, IsSelectorAnswer, IsPatchSelectorAnswer, selector_result as told}
use Rattle.node_select.proofs.WidthReading.{Agrees, verdict, counted, dropped}
use Rattle.node_select.proofs.ResolvedSelectors.{selector_follows, patch_selector_follows}
use Rattle.node_select.proofs.NameReading.{judged_steps, judged_end, judged_selector, judged_patch_end, judged_patch_selector}
use Rattle.node_select.proofs.ExactParts.{Is, clash, other, exact_attribute, exact_position, lawful_attribute, lawful_position}
use Rattle.node_select.proofs.StepFronts.{fronted_step}
use Rattle.node_select.proofs.ExactSteps.{into_optional, and_left, exact_step, lawful_step, starts_step, read_covers}

-- ---- after a slash
slash_covers : {faults : FaultRanking FaultKind} {J X : Rest FaultKind} (t : List ℕ) → Covers faults t J X → Covers faults (47 ∷ t) (ahead (word slash) (λ _. J)) (ahead (word slash) (λ _. X))
slash_covers {faults} {J} {X} t h = record {
  events = λ e v w j m. ⊎_elim (λ l. inl (inl l)) (λ l. behind_slash e v w j l.1.front l.1.back l.1.joined l.1.front_is l.1.back_is) m;
  whole = λ m. h.whole (subst J.Whole (sym (behind_is m.1.front m.1.back m.1.front_is m.1.joined)) m.1.back_is);
}
  where
    behind_is : (front back : List ℕ) → front ≡ slash → 47 ∷ t ≡ front ++ back → t ≡ back
    behind_is front back s j = append_cancel_left slash t back (j ∙ ap (λ (z : List ℕ). z ++ back) s)

    slash_alone : (e : Event FaultKind) (v back : List ℕ) → v ≡ slash ++ back → Idle faults e back → (ahead (word slash) (λ _. X)).Meets e v ⊎ Idle faults e v
    slash_alone Begin v back j i = inl (inl ([], sym (j ∙ ap (λ (z : List ℕ). slash ++ z) i ∙ refl) ∙ sym (nothing v)))
      where
        nothing : (v : List ℕ) → v ++ [] ≡ v
        nothing [] = refl
        nothing (c ∷ v) = ap (λ (z : List ℕ). c ∷ z) (nothing v)
    slash_alone (Mark k b) v back j i = inr i

    behind_slash : (e : Event FaultKind) (v w : List ℕ) → 47 ∷ t ≡ v ++ w → (front back : List ℕ) → v ≡ front ++ back → front ≡ slash → J.Meets e back → (ahead (word slash) (λ _. X)).Meets e v ⊎ Idle faults e v
    behind_slash e v w j front back k s m =
        let at : v ≡ slash ++ back = k ∙ ap (λ (z : List ℕ). z ++ back) s in
        let rest : t ≡ back ++ w = append_cancel_left slash t (back ++ w) (j ∙ ap (λ (z : List ℕ). z ++ w) at) in
        ⊎_elim (λ l. inl (inr (tt, record { front = slash; back = back; joined = at; front_is = refl; back_is = l }))) (λ i. slash_alone e v back at i) (h.events e back w rest m)

module _ (bindings : List Decl) (default : List ℕ) (on : Bool) where
  abbrev faults : FaultRanking FaultKind
  faults = fault_ranking on

  abbrev attribute : Rule FaultKind Name
  attribute = Grammar.attribute bindings default

  abbrev step : Rule FaultKind Step
  step = Grammar.step bindings default

  abbrev next_step : Rule FaultKind Step
  next_step = keep_second (word slash) step

  abbrev steps : Rule FaultKind (List Step)
  steps = Grammar.steps bindings default

  abbrev end : Rule FaultKind End
  end = Grammar.end bindings default

  abbrev selector : Rule FaultKind Selector
  selector = Grammar.selector bindings default

  abbrev patch_end : Rule FaultKind PatchEnd
  patch_end = Grammar.patch_end bindings default

  abbrev patch_selector : Rule FaultKind PatchSelector
  patch_selector = Grammar.patch_selector bindings default

  abbrev read_steps : (List ℕ → Bool) → Reader FaultKind (List Step)
  read_steps = judged_steps bindings default on

  abbrev read_end : Reader FaultKind End
  read_end = judged_end bindings default on

  abbrev read_selector : Reader FaultKind Selector
  read_selector = judged_selector bindings default on

  abbrev read_patch_end : Reader FaultKind PatchEnd
  read_patch_end = judged_patch_end bindings default on

  abbrev read_patch_selector : Reader FaultKind PatchSelector
  read_patch_selector = judged_patch_selector bindings default on

  abbrev chars_end : Option ℕ → PatchEnd
  chars_end n = patch_ends.Chars n

  -- ---- steps, and then an end after a slash, if there is one
  starts_next : {P : ℕ → Type 0} → P 47 → Starts P next_step
  starts_next h = starts_behind step (starts_word h)

  lawful_next : Lawful next_step
  lawful_next = lawful_behind (lawful_word slash) (lawful_step bindings default)

  lawful_steps : Lawful steps
  lawful_steps = lawful_valued steps_from_parts (lawful_sequence (lawful_step bindings default) (λ _. lawful_many lawful_next (inl (slash, refl))))

  module _ {E : Type 0} (last : Rule FaultKind E) (f : Option E → E) (lawful_last : Lawful last) where
    abbrev pub tail : Rule FaultKind E
    tail = map_rule f (optional (keep_second (word slash) last))

    abbrev pub tail_rest : Rest FaultKind
    tail_rest = ahead tail (λ _. ends)

    heads_tail : Heads (Is 47) tail_rest
    heads_tail = heads_valued f (heads_optional (starts_behind last (starts_word refl)) heads_ends)

    abbrev pub after_step : Rest FaultKind
    after_step = ahead (many next_step) (λ _. tail_rest)

    pub heads_after : Heads (Is 47) after_step
    heads_after = heads_many (starts_next refl) heads_tail

    inside_after : Inside after_step
    inside_after = inside_ahead (lawful_many lawful_next (inl (slash, refl))) (λ _. inside_ahead (lawful_valued f (lawful_optional (lawful_behind (lawful_word slash) lawful_last))) (λ _. inside_ends))

    -- the test distinguishes steps from the end, after a slash
    pub record Apart (follows : List ℕ → Bool) : Type 0 where
      pub at_end : follows [] ≡ false
      pub slashed : (text : List ℕ) → follows text ≡ true → first_char_is (λ c. c == 47) text ≡ true
      pub no_end : (t : List ℕ) → follows (47 ∷ t) ≡ true → Covers faults t (ahead last (λ _. ends)) (ahead step (λ _. after_step))
      pub no_step : (t : List ℕ) → follows (47 ∷ t) ≡ false → Covers faults t (ahead step (λ _. after_step)) (ahead last (λ _. ends))

    module _ (follows : List ℕ → Bool) (a : Apart follows) where
      slash_is : (text : List ℕ) → first_char_is (λ c. c == 47) text ≡ true → (t : List ℕ) × (text ≡ 47 ∷ t)
      slash_is [] h = cc
      slash_is (c ∷ t) h = (t, ap (λ (z : ℕ). z ∷ t) (eqb-true c 47 h))

      goes_on : (text t : List ℕ) → text ≡ 47 ∷ t → follows text ≡ true → Covers faults text tail_rest (ahead next_step (λ _. after_step))
      goes_on text t j h =
          covers_valued f
          (covers_either
          (covers_valued Some (covers_valued (λ x. x.1) (covers_sequence (covered_valued (λ x. x.1) (λ _. after_step) (covered_sequence (λ _. step) (λ _. after_step)
          (subst (λ (z : List ℕ). Covers faults z (ahead (word slash) (λ _. ahead last (λ _. ends))) (ahead (word slash) (λ _. ahead step (λ _. after_step)))) (sym j)
          (slash_covers t (a.no_end t (ap follows (sym j) ∙ h)))))))))
          (covers_empty (heads_covers {P = λ _. ⊥} 47 t heads_ends j (λ m. m))))

      stops_at : (text t : List ℕ) → text ≡ 47 ∷ t → follows text ≡ false → Covers faults text (ahead next_step (λ _. after_step)) tail_rest
      stops_at text t j h =
          covered_valued f (λ _. ends)
          (covers_by (into_optional (keep_second (word slash) last) ends)
          (covers_valued (λ x. x.1) (covers_sequence (covered_valued (λ x. x.1) (λ _. ends) (covered_sequence (λ _. last) (λ _. ends)
          (subst (λ (z : List ℕ). Covers faults z (ahead (word slash) (λ _. ahead step (λ _. after_step))) (ahead (word slash) (λ _. ahead last (λ _. ends)))) (sym j)
          (slash_covers t (a.no_step t (ap follows (sym j) ∙ h)))))))))

      stops : (text : List ℕ) (b : Bool) → first_char_is (λ c. c == 47) text ≡ b → follows text ≡ false → Covers faults text (ahead next_step (λ _. after_step)) tail_rest
      stops text true e h = let s = slash_is text e in stops_at text s.0 s.1 h
      stops text false e h = failed_covers (λ c. c == 47) (starts_next refl) (λ c m. m) e

      pub exact_steps : Exact faults steps (λ _. tail_rest) (read_steps follows)
      exact_steps =
          exact_valued steps_from_parts
          (exact_sequence (exact_step bindings default on heads_after inside_after) (λ _. exact_many (record {
            at_end = a.at_end;
            uses = uses (starts_next {P = Is 47} refl);
            goes_on = λ text h. let s = slash_is text (a.slashed text h) in goes_on text s.0 s.1 h;
            stops = λ text h. stops text (first_char_is (λ c. c == 47) text) refl h;
          }) (exact_behind exact_word (exact_step bindings default on heads_after inside_after))))

    pub exact_tail : {p : Reader FaultKind E} → Exact faults last (λ _. ends) p → Exact faults tail (λ _. ends) (read_mapped f (read_optional slash_follows (read_second (read_word slash) p)))
    exact_tail h = exact_valued f (exact_optional_head (λ c. c == 47) (starts_behind last (starts_word refl)) (λ c m. m) (heads_ends {P = λ _. ⊥}) (λ c t m. m) (exact_behind exact_word h))

  -- ---- what a step is where the end of a selector begins
  lawful_end : Lawful end
  lawful_end = lawful_either (lawful_valued (attribute_end bindings default) (lawful_attribute bindings default)) (lawful_valued (λ _. Namespaces) (lawful_word namespaces))

  lawful_patch_end : Lawful patch_end
  lawful_patch_end = lawful_either (lawful_valued (patch_attribute_end bindings default) (lawful_attribute bindings default)) (lawful_valued chars_end (lawful_behind (lawful_word text_test) (lawful_optional lawful_position)))

  starts_attribute : {P : ℕ → Type 0} → P 64 → Starts P attribute
  starts_attribute h = starts_behind (with_value_marks (MarksUnboundName bindings) (filter_rule is_attribute_name qname)) (starts_word h)

  no_at : (t : List ℕ) → starts_with_word at_sign t ≡ false → (c : ℕ) (x : List ℕ) → t ≡ c ∷ x → c ≡ 64 → ⊥
  no_at t f c x j e = let same : t ≡ 64 ∷ x = j ∙ ap (λ (z : ℕ). z ∷ x) e in let yes : starts_with_word at_sign t ≡ true = ap (starts_with_word at_sign) same in clash (starts_with_word at_sign t) yes f

  step_no_at : {J : Step → Rest FaultKind} {X : Rest FaultKind} (t : List ℕ) → starts_with_word at_sign t ≡ true → Covers faults t (ahead step J) X
  step_no_at t h =
      let j = starts_is at_sign t h in
      heads_covers 64 _ (heads_starts (starts_step bindings default {P = Not (λ c. c == 64)} refl (λ c m. other is_name_start c 64 refl m))) j (λ m. cc)

  or_false : (a b : Bool) → not (a || b) ≡ true → (a ≡ false) × (b ≡ false)
  or_false false false h = (refl, refl)
  or_false false true h = cc
  or_false true b h = cc

  or_true : (a b : Bool) → not (a || b) ≡ false → (a ≡ true) ⊎ (b ≡ true)
  or_true true b h = inl refl
  or_true false true h = inr refl
  or_true false false h = cc

  -- `namespace:` and `text`
  abbrev axis : List ℕ
  axis = 110 ∷ 97 ∷ 109 ∷ 101 ∷ 115 ∷ 112 ∷ 97 ∷ 99 ∷ 101 ∷ 58 ∷ []

  abbrev text_name : List ℕ
  text_name = 116 ∷ 101 ∷ 120 ∷ 116 ∷ []

  module _ {K : Rest FaultKind} (h : Heads (Is 47) K) (inside : Inside K) where
    axis_stops : (x : List ℕ) → IsStopped faults step (λ _. K) (axis ++ (58 ∷ x)) (58 ∷ x)
    axis_stops x = (exact_step bindings default on h inside).by (axis ++ (58 ∷ x))

    axis_used : (x : List ℕ) → (axis_stops x).used ≡ axis
    axis_used x = append_cancel_right (axis_stops x).used axis (58 ∷ x) (sym (axis_stops x).joined)

    axis_begins : (u x : List ℕ) → axis ≡ u ++ x → step.Meets Begin u
    axis_begins u x j = (fronted_step bindings default).front u x (subst (λ (z : List ℕ). step.Meets Begin z) (axis_used [] ∙ j) (axis_stops []).begun)

    text_raw : Step
    text_raw = record { name = Named default text_name; position = None; test = None }

    text_read : (x : List ℕ) → IsRead faults step (λ _. K) (text_name ++ (40 ∷ x)) text_raw (40 ∷ x)
    unfolding text_raw
    text_read x = (exact_step bindings default on h inside).by (text_name ++ (40 ∷ x))

    text_used : (x : List ℕ) → (text_read x).used ≡ text_name
    text_used x = append_cancel_right (text_read x).used text_name (40 ∷ x) (sym (text_read x).joined)

    text_begins : (u x : List ℕ) → text_name ≡ u ++ x → step.Meets Begin u
    text_begins u x j = (fronted_step bindings default).front u x (subst (λ (z : List ℕ). step.Meets Begin z) (text_used [] ∙ j) ((lawful_step bindings default).whole (text_read []).used text_raw (text_read []).spelled))

  -- ---- selectors
  abbrev after_node : Rest FaultKind
  after_node = after_step end end_or_element lawful_end

  node_no_end : (t : List ℕ) → starts_with_word at_sign t ≡ false → starts_with_word namespace_axis t ≡ false → Covers faults t (ahead end (λ _. ends)) (ahead step (λ _. after_node))
  node_no_end t f g =
      covers_either
      (covers_valued (attribute_end bindings default) (starts_covers (starts_attribute {P = Is 64} refl) (no_at t f)))
      (covers_valued (λ _. Namespaces)
      (led_covers_rest (led_word {Q = Is 58} axis 58 (42 ∷ []) refl) (λ u x y j k. inl (inl (axis_begins (heads_after end end_or_element lawful_end) (inside_after end end_or_element lawful_end) u x j)))
      (λ d x j e. next_false axis 58 t x g (j ∙ ap (λ (z : ℕ). axis ++ (z ∷ x)) e))))

  end_begins : (u x : List ℕ) → axis ≡ u ++ x → end.Meets Begin u
  end_begins u x j = inr (x ++ (58 ∷ 42 ∷ []), ap (λ (z : List ℕ). z ++ (58 ∷ 42 ∷ [])) j ∙ append_assoc u x (58 ∷ 42 ∷ []))

  node_no_step : (t : List ℕ) → (starts_with_word at_sign t ≡ true) ⊎ (starts_with_word namespace_axis t ≡ true) → Covers faults t (ahead step (λ _. after_node)) (ahead end (λ _. ends))
  node_no_step t (inl h) = step_no_at t h
  node_no_step t (inr h) = at_axis _ (starts_is namespace_axis t h)
    where
      H : Heads (Is 47) after_node
      H = heads_after end end_or_element lawful_end

      I : Inside after_node
      I = inside_after end end_or_element lawful_end

      at_axis : (x : List ℕ) → t ≡ namespace_axis ++ x → Covers faults t (ahead step (λ _. after_node)) (ahead end (λ _. ends))
      at_axis x j =
          subst (λ (z : List ℕ). Covers faults z (ahead step (λ _. after_node)) (ahead end (λ _. ends))) (sym j)
          (stopped_covers (axis_stops H I x) (λ u y k. inl (inl (end_begins u y (sym (axis_used H I x) ∙ k)))))

  node_apart : Apart end end_or_element lawful_end step_follows
  node_apart = record {
    at_end = refl;
    slashed = λ text h. and_left (slash_follows text) _ h;
    no_end = λ t h. let f = or_false (starts_with_word at_sign t) (starts_with_word namespace_axis t) h in node_no_end t f.0 f.1;
    no_step = λ t h. node_no_step t (or_true (starts_with_word at_sign t) (starts_with_word namespace_axis t) h);
  }

  exact_end : Exact faults end (λ _. ends) read_end
  exact_end =
      exact_either_head (λ c. c == 64) (starts_valued (attribute_end bindings default) (starts_attribute refl)) (λ c m. m)
      (heads_starts (starts_valued (λ _. Namespaces) (starts_word {P = Not (λ c. c == 64)} refl))) (λ c t m. clash (c == 64) t m)
      (exact_valued (attribute_end bindings default) (exact_attribute bindings default on inside_ends heads_ends)) (exact_valued (λ _. Namespaces) exact_word)

  exact_selector : Exact faults selector (λ _. ends) read_selector
  exact_selector = exact_valued selector_from_parts (exact_sequence (exact_steps end end_or_element lawful_end step_follows node_apart) (λ _. exact_tail end end_or_element lawful_end exact_end))

  lawful_selector : Lawful selector
  lawful_selector = lawful_valued selector_from_parts (lawful_sequence lawful_steps (λ _. lawful_valued end_or_element (lawful_optional (lawful_behind (lawful_word slash) lawful_end))))

  -- reading a whole selector returns what the grammar says
  pub selector_answers : (text : List ℕ) → IsParseResult faults selector text (read_whole_text read_selector text)
  selector_answers text = answers_whole lawful_selector exact_selector text

  -- ---- selectors of patches
  abbrev after_patch : Rest FaultKind
  after_patch = after_step patch_end patch_end_or_element lawful_patch_end

  patch_no_end : (t : List ℕ) → starts_with_word at_sign t ≡ false → starts_with_word text_call t ≡ false → Covers faults t (ahead patch_end (λ _. ends)) (ahead step (λ _. after_patch))
  patch_no_end t f g =
      covers_either
      (covers_valued (patch_attribute_end bindings default) (starts_covers (starts_attribute {P = Is 64} refl) (no_at t f)))
      (covers_valued chars_end
      (led_covers_rest (led_behind (optional position) (led_word {Q = Is 40} text_name 40 (41 ∷ []) refl)) (λ u x y j k. inl (inl (text_begins (heads_after patch_end patch_end_or_element lawful_patch_end) (inside_after patch_end patch_end_or_element lawful_patch_end) u x j)))
      (λ d x j e. next_false text_name 40 t x g (j ∙ ap (λ (z : ℕ). text_name ++ (z ∷ x)) e))))

  patch_end_begins : (u x : List ℕ) → text_name ≡ u ++ x → patch_end.Meets Begin u
  patch_end_begins u x j = inr (inl (x ++ (40 ∷ 41 ∷ []), ap (λ (z : List ℕ). z ++ (40 ∷ 41 ∷ [])) j ∙ append_assoc u x (40 ∷ 41 ∷ [])))

  not_slash : Is 47 40 → ⊥
  not_slash e = omega arith

  patch_no_step : (t : List ℕ) → (starts_with_word at_sign t ≡ true) ⊎ (starts_with_word text_call t ≡ true) → Covers faults t (ahead step (λ _. after_patch)) (ahead patch_end (λ _. ends))
  patch_no_step t (inl h) = step_no_at t h
  patch_no_step t (inr h) = at_text _ (starts_is text_call t h)
    where
      H : Heads (Is 47) after_patch
      H = heads_after patch_end patch_end_or_element lawful_patch_end

      I : Inside after_patch
      I = inside_after patch_end patch_end_or_element lawful_patch_end

      at_text : (x : List ℕ) → t ≡ text_call ++ x → Covers faults t (ahead step (λ _. after_patch)) (ahead patch_end (λ _. ends))
      at_text x j =
          subst (λ (z : List ℕ). Covers faults z (ahead step (λ _. after_patch)) (ahead patch_end (λ _. ends))) (sym j)
          (read_covers 40 x (text_read H I x) H not_slash (λ u y k. inl (inl (patch_end_begins u y (sym (text_used H I x) ∙ k)))))

  patch_apart : Apart patch_end patch_end_or_element lawful_patch_end patch_step_follows
  patch_apart = record {
    at_end = refl;
    slashed = λ text h. and_left (slash_follows text) _ h;
    no_end = λ t h. let f = or_false (starts_with_word at_sign t) (starts_with_word text_call t) h in patch_no_end t f.0 f.1;
    no_step = λ t h. patch_no_step t (or_true (starts_with_word at_sign t) (starts_with_word text_call t) h);
  }

  starts_position : {P : ℕ → Type 0} → P 91 → Starts P position
  starts_position h = starts_behind _ (starts_word h)

  exact_patch_end : Exact faults patch_end (λ _. ends) read_patch_end
  exact_patch_end =
      exact_either_head (λ c. c == 64) (starts_valued (patch_attribute_end bindings default) (starts_attribute refl)) (λ c m. m)
      (heads_starts (starts_valued chars_end (starts_behind (optional position) (starts_word {P = Not (λ c. c == 64)} refl)))) (λ c t m. clash (c == 64) t m)
      (exact_valued (patch_attribute_end bindings default) (exact_attribute bindings default on inside_ends heads_ends))
      (exact_valued chars_end (exact_behind exact_word (exact_optional_head (λ c. c == 91) (starts_position refl) (λ c m. m) (heads_ends {P = λ _. ⊥}) (λ c t m. m) exact_position)))

  exact_patch_selector : Exact faults patch_selector (λ _. ends) read_patch_selector
  exact_patch_selector =
      exact_behind
      (exact_optional_head (λ c. c == 47) (starts_word refl) (λ c m. m)
      (heads_starts (starts_valued patch_selector_from_parts (starts_sequence (λ _. tail patch_end patch_end_or_element lawful_patch_end) (starts_valued steps_from_parts (starts_sequence (λ _. many next_step) (starts_step bindings default {P = Not (λ c. c == 47)} refl (λ c m. other is_name_start c 47 refl m))))))) (λ c t m. clash (c == 47) t m) exact_word)
      (exact_valued patch_selector_from_parts (exact_sequence (exact_steps patch_end patch_end_or_element lawful_patch_end patch_step_follows patch_apart) (λ _. exact_tail patch_end patch_end_or_element lawful_patch_end exact_patch_end)))

  lawful_patch_selector : Lawful patch_selector
  lawful_patch_selector =
      lawful_behind (lawful_optional (lawful_word slash))
      (lawful_valued patch_selector_from_parts (lawful_sequence lawful_steps (λ _. lawful_valued patch_end_or_element (lawful_optional (lawful_behind (lawful_word slash) lawful_patch_end)))))

  -- reading a whole selector of a patch returns what the grammar says
  pub patch_selector_answers : (text : List ℕ) → IsParseResult faults patch_selector text (read_whole_text read_patch_selector text)
  patch_selector_answers text = answers_whole lawful_patch_selector exact_patch_selector text

-- ---- answers

place_same : (text : List ℕ) (n : ℕ) → byte_offset text (length (chars text) - length (drop n (chars text))) ≡ byte_offset text n
place_same text n = ap (λ (l : List ℕ). length text - length (encode_utf8_all l)) (again (chars text))
  where
    again : (xs : List ℕ) → drop (length xs - length (drop n xs)) xs ≡ drop n xs
    again xs =
        let front : length xs - length (drop n xs) ≡ length (take n xs) = omega (arith, ap length (take-append-drop n xs), length-append (take n xs) (drop n xs)) in
        ap (λ (k : ℕ). drop k xs) front ∙ ap (drop (length (take n xs))) (sym (take-append-drop n xs)) ∙ dropped (take n xs) (drop n xs)

module _ {A B : Type 0} (text : List ℕ) (f : A → B) (u : ℕ → A → Option ℕ) where
  abbrev raw_told : Result A (Stop FaultKind) → Result B SelectorFault
  raw_told (Ok raw) = resolved_or_unbound text (u 0 raw) (f raw)
  raw_told (Err stop) = Err (BadSelector (stop_offset text stop))

  abbrev all_in : {C : Type 0} → Result (C × List ℕ) (Stop FaultKind) → Result C (Stop FaultKind)
  all_in out = out >>= λ x. require_end x.0 x.1

  by_place : (a : A) (o : Option ℕ) → resolved_or_unbound text o (f a) ≡ told text (all_in (verdict false (chars text) (counted false (chars text) o) (f a) [])) (all_in (verdict true (chars text) (counted true (chars text) o) (f a) []))
  by_place a None = refl
  by_place a (Some n) = ap (λ (k : ℕ). let r : Result B SelectorFault = Err (UnboundPrefix k) in r) (sym (place_same text n))

  more_told : (a : A) (o : Option ℕ) (c : ℕ) (cs : List ℕ) (names : Result B (Stop FaultKind))
      → raw_told (Err (Syntax (c ∷ cs))) ≡ told text (all_in (verdict false (chars text) (counted false (chars text) o) (f a) (c ∷ cs))) names
  more_told a None c cs names = refl
  more_told a (Some n) c cs names = refl

  agreed : (out : Result (A × List ℕ) (Stop FaultKind)) (form names : Result (B × List ℕ) (Stop FaultKind)) → Agrees false (chars text) f u 0 (chars text) out form → Agrees true (chars text) f u 0 (chars text) out names
      → raw_told (all_in out) ≡ told text (all_in form) (all_in names)
  agreed (Ok (a, [])) form names h i =
      by_place a (u 0 a) ∙ ap (λ (r : Result (B × List ℕ) (Stop FaultKind)). told text (all_in r) (all_in (verdict true (chars text) (counted true (chars text) (u 0 a)) (f a) []))) (sym h.1) ∙ ap (λ (r : Result (B × List ℕ) (Stop FaultKind)). told text (all_in form) (all_in r)) (sym i.1)
  agreed (Ok (a, c ∷ cs)) form names h i = more_told a (u 0 a) c cs (all_in names) ∙ ap (λ (r : Result (B × List ℕ) (Stop FaultKind)). told text (all_in r) (all_in names)) (sym h.1)
  agreed (Err e) form names h i = ap (λ (r : Result (B × List ℕ) (Stop FaultKind)). told text (all_in r) (all_in names)) (sym (h refl))

-- the answers do not depend on which fault of the names is found
told_names : {A : Type 0} (text : List ℕ) (form : Result A (Stop FaultKind)) (kind other : FaultKind) (left : List ℕ) → told text form (Err (Faulty kind left)) ≡ told text form (Err (Faulty other left))
told_names text (Ok value) kind other left = refl
told_names text (Err stop) kind other left = refl

module _ (bindings : List Decl) (default text : List ℕ) where
  abbrev form_of : Bool → Result Selector (Stop FaultKind)
  form_of on = read_whole_text (judged_selector bindings default on) (chars text)

  abbrev patch_form_of : Bool → Result PatchSelector (Stop FaultKind)
  patch_form_of on = read_whole_text (judged_patch_selector bindings default on) (chars text)

  raw_selector_told : (r : Result RawSelectors.RawSelector (Stop FaultKind)) → raw.selector_result_of bindings default text r ≡ raw_told text (RawSelectors.resolved_selector bindings default) (λ n x. RawSelectors.unbound_in_steps bindings n x.0 (RawSelectors.unbound_end bindings x.1)) r
  raw_selector_told (Ok x) = refl
  raw_selector_told (Err stop) = refl

  raw_patch_told : (r : Result RawSelectors.RawPatchSelector (Stop FaultKind)) → raw.patch_result bindings default text r ≡ raw_told text (RawSelectors.resolved_patch_selector bindings default) (λ n x. RawSelectors.unbound_in_steps bindings (n + x.0) x.1.0 (RawSelectors.unbound_patch_end bindings x.1.1)) r
  raw_patch_told (Ok x) = ap (λ (k : ℕ). resolved_or_unbound text (RawSelectors.unbound_in_steps bindings k x.1.0 (RawSelectors.unbound_patch_end bindings x.1.1)) (RawSelectors.resolved_patch_selector bindings default x)) (let e : x.0 ≡ 0 + x.0 = omega arith in e)
  raw_patch_told (Err stop) = refl

  pub selector_answer : IsSelectorAnswer bindings default text (parsed_selector bindings default text)
  selector_answer = record {
    form_is = form_of false;
    by_form = selector_answers bindings default false (chars text);
    names_are = form_of true;
    by_names = selector_answers bindings default true (chars text);
    is_told =
        raw_selector_told (read_whole_text reader.read_selector (chars text))
        ∙ agreed text (RawSelectors.resolved_selector bindings default) (λ n x. RawSelectors.unbound_in_steps bindings n x.0 (RawSelectors.unbound_end bindings x.1)) (reader.read_selector (chars text)) (judged_selector bindings default false (chars text)) (judged_selector bindings default true (chars text))
        ((selector_follows bindings default false (chars text)).by 0 (chars text) refl) ((selector_follows bindings default true (chars text)).by 0 (chars text) refl);
  }

  pub patch_selector_answer : IsPatchSelectorAnswer bindings default text (parsed_patch_selector bindings default text)
  patch_selector_answer = record {
    form_is = patch_form_of false;
    by_form = patch_selector_answers bindings default false (chars text);
    names_are = patch_form_of true;
    by_names = patch_selector_answers bindings default true (chars text);
    is_told =
        raw_patch_told (read_whole_text reader.read_patch_selector (chars text))
        ∙ agreed text (RawSelectors.resolved_patch_selector bindings default) (λ n x. RawSelectors.unbound_in_steps bindings (n + x.0) x.1.0 (RawSelectors.unbound_patch_end bindings x.1.1)) (reader.read_patch_selector (chars text)) (judged_patch_selector bindings default false (chars text)) (judged_patch_selector bindings default true (chars text))
        ((patch_selector_follows bindings default false (chars text)).by 0 (chars text) refl) ((patch_selector_follows bindings default true (chars text)).by 0 (chars text) refl);
  }

  -- and nothing else
  pub one_selector : (a b : Result Selector SelectorFault) → IsSelectorAnswer bindings default text a → IsSelectorAnswer bindings default text b → a ≡ b
  one_selector a b x y =
      x.is_told
      ∙ told_alike (fault_ranking false) (Grammar.selector bindings default) (chars text) (λ form. told text form x.names_are) (λ kind other left k o same. refl) x.form_is y.form_is x.by_form y.by_form
      ∙ told_alike (fault_ranking true) (Grammar.selector bindings default) (chars text) (λ names. told text y.form_is names) (λ kind other left k o same. told_names text y.form_is kind other left) x.names_are y.names_are x.by_names y.by_names
      ∙ sym y.is_told

  pub one_patch_selector : (a b : Result PatchSelector SelectorFault) → IsPatchSelectorAnswer bindings default text a → IsPatchSelectorAnswer bindings default text b → a ≡ b
  one_patch_selector a b x y =
      x.is_told
      ∙ told_alike (fault_ranking false) (Grammar.patch_selector bindings default) (chars text) (λ form. told text form x.names_are) (λ kind other left k o same. refl) x.form_is y.form_is x.by_form y.by_form
      ∙ told_alike (fault_ranking true) (Grammar.patch_selector bindings default) (chars text) (λ names. told text y.form_is names) (λ kind other left k o same. told_names text y.form_is kind other left) x.names_are y.names_are x.by_names y.by_names
      ∙ sym y.is_told

  pub selector_answered : (r : Result Selector (ReadError SelectorFault)) → ResultSatisfies (λ answer. answer ≡ parsed_selector bindings default text) r → ResultSatisfies (IsSelectorAnswer bindings default text) r
  selector_answered = answered_so (λ answer. answer ≡ parsed_selector bindings default text) (IsSelectorAnswer bindings default text)
      (λ answer e. subst (IsSelectorAnswer bindings default text) (sym e) selector_answer)

  pub patch_selector_answered : (r : Result PatchSelector (ReadError SelectorFault)) → ResultSatisfies (λ answer. answer ≡ parsed_patch_selector bindings default text) r → ResultSatisfies (IsPatchSelectorAnswer bindings default text) r
  patch_selector_answered = answered_so (λ answer. answer ≡ parsed_patch_selector bindings default text) (IsPatchSelectorAnswer bindings default text)
      (λ answer e. subst (IsPatchSelectorAnswer bindings default text) (sym e) patch_selector_answer)
