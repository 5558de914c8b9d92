-- Steps are read exactly, where what follows begins with a slash.
use Rattle.std.proofs.Common.{◌≡◌, ℕ, ◌≤◌, Bool, true, false, List, [], ◌∷◌, ◌++◌, length, ◌⊎◌, inl, inr, ⊎_elim, refl, sym, ap, ◌∙◌, subst, arith, append_assoc}
use Rattle.std.specs.Prelude.{◌&&◌, not, ◌==◌, Some}
use Rattle.std.proofs.lemmas.List.{append_cancel_left, append-nil, length-append}
use Rattle.xml_names.specs.Characters.{is_name_start}
use Rattle.xml_names.specs.declared.names.Decl.{Decl}
use Rattle.std.specs.Char.{is_ascii_digit as is_digit}
use Rattle.xml_grammar.specs.Rules.{Event, Begin, Mark, Rule, word, sequence, optional, keep_first, keep_second, map_rule, one_or_more}
use Rattle.xml_grammar.specs.TextReading.{first_char_is, starts_with_word}
use Rattle.xml_grammar.specs.readers.RuleReaders.{read_optional}
use Rattle.xml_grammar.specs.ParseResults.{FaultRanking}
use Rattle.xml_grammar.proofs.Exact.{Rest, ahead, Exact, IsRead, Passed, exact_sequence}
use Rattle.xml_grammar.proofs.Carry.{Idle, Covers, exact_valued, covers_either, covers_valued}
use Rattle.xml_grammar.proofs.Fronts.{GoesOn, compare}
use Rattle.xml_grammar.proofs.Heads.{Heads, Starts, Not, heads_weaker, heads_optional, starts_word, starts_weaker, starts_valued, starts_either, starts_sequence, starts_judged}
use Rattle.xml_grammar.proofs.Laws.{Lawful, Inside, inside_ahead, lawful_valued, lawful_sequence, lawful_optional}
use Rattle.xml_grammar.proofs.LedRules.{Led, led_valued, led_then}
use Rattle.xml_grammar.proofs.Shapes.{exact_optional, covers_by, covers_empty, starts_behind, starts_before, starts_some_of}
use Rattle.xml_grammar.proofs.Tests.{exact_optional_head, passed_covers, failed_covers, next_covers, other_covers}
use Rattle.xml_tokens.specs.declared.fault_kind.FaultKind.{FaultKind}
use Rattle.node_select.specs.declared.selector.NameTest.TheVariants.{Any}
use Rattle.node_select.specs.declared.selector.AttrTest.{AttrTest}
use Rattle.node_select.specs.Grammar.{MarksUnboundName, node_name, position_of, position, attribute, value, test, step}
use Rattle.node_select.specs.readers.SelectorValues.{element_test, attr_test, step_from_parts}
use Rattle.node_select.specs.readers.Literals.{at_sign, open_bracket, close_bracket, equals_sign}
use Rattle.node_select.specs.readers.Selectors.{position_follows, test_follows, read_position}
use Rattle.node_select.specs.Faults.{fault_ranking}
use Rattle.node_select.proofs.NameReading.{judged_test, judged_step}
use Rattle.node_select.proofs.ExactParts.{Is, clash, in_qname, starts_qname, exact_position, exact_test, exact_node_name, lawful_position, lawful_test, lawful_node_name}

-- a beginning of a member is a beginning of the optional member
pub into_optional : {A : Type 0} (r : Rule FaultKind A) (K : Rest FaultKind) (e : Event FaultKind) (v : List ℕ) → (ahead r (λ _. K)).Meets e v → (ahead (optional r) (λ _. K)).Meets e v
into_optional r K e v (inl m) = inl (inl m)
into_optional r K e v (inr l) = inr (Some l.0, record { front = l.1.front; back = l.1.back; joined = l.1.joined; front_is = inl (l.0, l.1.front_is, refl); back_is = l.1.back_is })

pub and_left : (a b : Bool) → (a && b) ≡ true → a ≡ true
and_left true b h = refl
and_left false b h = h

pub and_right : (a b : Bool) → (a && b) ≡ true → b ≡ true
and_right true b h = h
and_right false b h = cc

pub not_true : (b : Bool) → not b ≡ true → b ≡ false
not_true false h = refl
not_true true h = cc

-- ---- the brackets
led_position : Led open_bracket (λ c. is_digit c ≡ true) position
led_position = led_valued (λ x. x.1) (led_then open_bracket (starts_before (word close_bracket) (starts_valued position_of (starts_some_of (λ c m. m)))))

starts_position : {P : ℕ → Type 0} → P 91 → Starts P position
starts_position h = starts_behind (keep_first (map_rule position_of (one_or_more is_digit)) (word close_bracket)) (starts_word h)

module _ (bindings : List Decl) (default : List ℕ) where
  abbrev tested : Rule FaultKind AttrTest
  tested = test bindings default

  led_test : Led open_bracket (Is 64) tested
  led_test =
      led_valued (λ x. x.1)
      (led_then open_bracket (starts_before (word close_bracket) (starts_valued (attr_test bindings default) (starts_sequence (λ _. keep_second (word equals_sign) value) (starts_behind _ (starts_word refl))))))

  starts_test : {P : ℕ → Type 0} → P 91 → Starts P tested
  starts_test h = starts_behind (keep_first (map_rule (attr_test bindings default) (sequence (attribute bindings default) (λ _. keep_second (word equals_sign) value))) (word close_bracket)) (starts_word h)

  pub lawful_step : Lawful (step bindings default)
  lawful_step =
      lawful_valued step_from_parts
      (lawful_sequence (lawful_sequence (lawful_node_name bindings default) (λ _. lawful_optional lawful_position)) (λ _. lawful_optional (lawful_test bindings default)))

  pub starts_step : {P : ℕ → Type 0} → P 42 → ((c : ℕ) → is_name_start c ≡ true → P c) → Starts P (step bindings default)
  starts_step {P} a b = starts_valued step_from_parts (starts_sequence (λ _. optional tested) (starts_sequence (λ _. optional position) names))
    where
      names : Starts P (node_name bindings default)
      names = starts_either (starts_valued (λ _. Any) (starts_word a)) (starts_valued (element_test bindings default) (starts_judged (MarksUnboundName bindings) (starts_weaker b starts_qname)))

  module _ (on : Bool) {K : Rest FaultKind} (h : Heads (Is 47) K) (inside : Inside K) where
    abbrev rest_test : Rest FaultKind
    rest_test = ahead (optional tested) (λ _. K)

    slash_not : (p : ℕ → Bool) → p 47 ≡ false → Heads (Not p) K
    slash_not p f = heads_weaker (λ c e. ap p e ∙ f) h

    heads_test : (p : ℕ → Bool) → p 91 ≡ false → p 47 ≡ false → Heads (Not p) rest_test
    heads_test p f g = heads_optional (starts_test f) (slash_not p g)

    heads_position : (p : ℕ → Bool) → p 91 ≡ false → p 47 ≡ false → Heads (Not p) (ahead (optional position) (λ _. rest_test))
    heads_position p f g = heads_optional (starts_position f) (heads_test p f g)

    inside_position : Inside (ahead (optional position) (λ _. rest_test))
    inside_position = inside_ahead (lawful_optional lawful_position) (λ _. inside_ahead (lawful_optional (lawful_test bindings default)) (λ _. inside))

    exact_optional_test : Exact (fault_ranking on) (optional tested) (λ _. K) (read_optional test_follows (judged_test bindings default on))
    exact_optional_test = exact_optional_head (λ c. c == 91) (starts_test refl) (λ c m. m) (slash_not (λ c. c == 91) refl) (λ c t m. clash (c == 91) t m) (exact_test bindings default on inside)

    goes : (text : List ℕ) → first_char_is (λ c. c == 91) text ≡ true → starts_with_word (open_bracket ++ at_sign) text ≡ false → Covers (fault_ranking on) text rest_test (ahead position (λ _. rest_test))
    goes text t f =
        covers_either (covers_valued Some (other_covers open_bracket 64 led_test led_position f))
        (covers_empty (passed_covers (λ c. c == 91) (slash_not (λ c. c == 91) refl) (λ c t m. clash (c == 91) t m) t))

    stops : (text : List ℕ) (a b : Bool) → first_char_is (λ c. c == 91) text ≡ a → starts_with_word (open_bracket ++ at_sign) text ≡ b → (a && not b) ≡ false → Covers (fault_ranking on) text (ahead position (λ _. rest_test)) rest_test
    stops text false b e f n = failed_covers (λ c. c == 91) (starts_position refl) (λ c m. m) e
    stops text true true e f n = covers_by (into_optional tested K) (next_covers {K = λ _. K} open_bracket 64 led_position led_test (λ d. cc) f)
    stops text true false e f n = absurd cc

    exact_optional_position : Exact (fault_ranking on) (optional position) (λ _. rest_test) (read_optional position_follows read_position)
    exact_optional_position = exact_optional position_follows exact_position
        (λ text t. goes text (and_left (first_char_is (λ c. c == 91) text) _ t) (not_true _ (and_right (first_char_is (λ c. c == 91) text) _ t)))
        (λ text f. stops text (first_char_is (λ c. c == 91) text) (starts_with_word (open_bracket ++ at_sign) text) refl refl f)

    pub exact_step : Exact (fault_ranking on) (step bindings default) (λ _. K) (judged_step bindings default on)
    exact_step =
        exact_valued step_from_parts
        (exact_sequence (exact_sequence (exact_node_name bindings default on inside_position (heads_position in_qname refl refl)) (λ _. exact_optional_position)) (λ _. exact_optional_test))

-- ---- a step that was read, or broke off, where nothing can follow it: nothing else is there
pub read_covers : {faults : FaultRanking FaultKind} {A : Type 0} {r : Rule FaultKind A} {M X : Rest FaultKind} {text : List ℕ} {a : A} (c : ℕ) (x : List ℕ) → (i : IsRead faults r (λ _. M) text a (c ∷ x)) → Heads (Is 47) M → (c ≡ 47 → ⊥) → ((u y : List ℕ) → i.used ≡ u ++ y → X.Meets Begin u ⊎ (u ≡ [])) → Covers faults text (ahead r (λ _. M)) X
read_covers {faults} {A} {r} {M} {X} {text} {a} c x i h no_slash fronts = record {
  events = λ e v w j m. ⊎_elim (λ p. by_front e v w j p) (λ l. by_rest e v w j l.0 l.1 l.2) (i.settled e v w j m);
  whole = λ m. by_whole m.0 m.1.front m.1.back m.1.joined m.1.front_is m.1.back_is;
}
  where
    front_of_used : (v w : List ℕ) → text ≡ v ++ w → length v ≤ length i.used → ((y : List ℕ) × (i.used ≡ v ++ y)) ⊎ GoesOn v i.used (c ∷ x) → X.Meets Begin v ⊎ (v ≡ [])
    front_of_used v w j n (inl k) = fronts v k.0 k.1
    front_of_used v w j n (inr k) = absurd (omega (arith, n, ap length k.front, length-append i.used (k.c ∷ k.rest)))

    by_front : (e : Event FaultKind) (v w : List ℕ) → text ≡ v ++ w → Passed faults e v i.used → X.Meets e v ⊎ Idle faults e v
    by_front Begin v w j p = front_of_used v w j p (compare v w i.used (c ∷ x) (sym j ∙ i.joined))
    by_front (Mark k b) v w j p = inr p

    by_rest : (e : Event FaultKind) (v w : List ℕ) → text ≡ v ++ w → (y : List ℕ) → v ≡ i.used ++ y → M.Meets e y → X.Meets e v ⊎ Idle faults e v
    by_rest Begin v w j [] k m = let same : v ≡ i.used = k ∙ append-nil i.used in fronts v [] (sym same ∙ sym (append-nil v))
    by_rest (Mark q b) v w j [] k m = absurd (h.none q b m)
    by_rest e v w j (d ∷ y) k m =
        let slash : d ≡ 47 = h.meets e d y m in
        let rest : c ∷ x ≡ (d ∷ y) ++ w = append_cancel_left i.used (c ∷ x) ((d ∷ y) ++ w) (sym i.joined ∙ j ∙ ap (λ (z : List ℕ). z ++ w) k ∙ append_assoc i.used (d ∷ y) w) in
        let same : c ≡ d = cc in
        absurd (no_slash (same ∙ slash))

    by_whole : (b : A) (front back : List ℕ) → text ≡ front ++ back → r.Spells front b → M.Whole back → ⊥
    by_whole b front back j s m =
        let u = i.unique front back b j s m in
        let rest : c ∷ x ≡ back = append_cancel_left i.used (c ∷ x) back (sym i.joined ∙ j ∙ ap (λ (z : List ℕ). z ++ back) u.0) in
        no_slash (h.whole c x (subst M.Whole (sym rest) m))
