-- The parts of selectors are read exactly: names, references and values, whatever comes after
-- them, as long as it doesn't continue them.
use Rattle.std.proofs.Common.{◌≡◌, ℕ, Bool, true, false, List, [], ◌∷◌, inl, refl, sym, ap, ◌∙◌, arith}
use Rattle.std.specs.Prelude.{◌||◌, ◌&&◌, not, ◌==◌}
use Rattle.std.proofs.lemmas.Bool.{eqb-true, eq-eqb}
use Rattle.std.specs.Int.{is_in_range as within}
use Rattle.std.specs.Char.{is_ascii_digit as is_digit, is_ascii_hexdigit as is_hex_digit}
use Rattle.xml_names.specs.Characters.{is_char, is_name_start, is_name_char}
use Rattle.xml_grammar.specs.Digits.{decimal_digits, hexadecimal_digits}
use Rattle.xml_grammar.specs.Rules.{word, char_run, either, map_rule, optional, between_gaps, keep_first, keep_second, number}
use Rattle.xml_grammar.specs.TextReading.{starts_with_word, read_word, read_mapped}
use Rattle.xml_grammar.specs.readers.RuleReaders.{read_either}
use Rattle.xml_grammar.specs.ParseResults.{FaultRanking}
use Rattle.xml_grammar.proofs.Exact.{Rest, ahead, Exact, exact_sequence}
use Rattle.xml_grammar.proofs.Leaves.{exact_word}
use Rattle.xml_grammar.proofs.Greedy.{exact_number}
use Rattle.xml_grammar.proofs.Carry.{exact_valued}
use Rattle.xml_grammar.proofs.ClosedRules.{exact_only, heads_unless}
use Rattle.xml_grammar.proofs.Heads.{Heads, Starts, Not, heads_starts, heads_weaker, heads_optional, starts_word, starts_weaker, starts_valued, starts_either, starts_sequence, starts_number, starts_judged}
use Rattle.xml_grammar.proofs.Laws.{Lawful, Quiet, Inside, inside_ahead, quiet_valued, quiet_sequence, quiet_optional, quiet_behind, quiet_word, quiet_name_of, quiet_only, lawful_valued, lawful_sequence, lawful_optional, lawful_behind, lawful_before, lawful_word, lawful_name_of, lawful_either, lawful_number, lawful_between, lawful_run, lawful_quoted, lawful_only, lawful_some_of}
use Rattle.xml_grammar.proofs.LedRules.{led_valued, led_word}
use Rattle.xml_grammar.proofs.Shapes.{exact_before, exact_behind, exact_name_of, exact_some_of, exact_quoted, starts_name_of, starts_behind}
use Rattle.xml_grammar.proofs.Tests.{exact_either_head, exact_optional_head, exact_between_run_head, exact_either_next}
use Rattle.xml_names.specs.declared.names.Decl.{Decl}
use Rattle.xml_tokens.specs.declared.fault_kind.FaultKind.{FaultKind}
use Rattle.xml_tokens.specs.readers.Literals.{colon, ampersand, semicolon, hash, letter_x, amp, lt, gt, quot, apos}
use Rattle.xml_tokens.specs.Values.{qname_of}
use Rattle.xml_tokens.specs.Tokens.{name, qname, predefined_entity, entity, char_ref, reference, max_char, is_quote, is_raw_char, is_raw_value_char}
use Rattle.xml_tokens.specs.readers.Tokens.{read_qname, read_predefined_entity, read_entity, read_char_ref, read_reference}
use Rattle.node_select.specs.declared.selector.NameTest.TheVariants.{Any}
use Rattle.node_select.specs.Grammar.{position_of, node_name, position, MarksUnboundName, is_attribute_name, attribute, literal_value, value, test}
use Rattle.node_select.specs.readers.SelectorValues.{attr_test, element_test}
use Rattle.node_select.specs.readers.Literals.{star, at_sign, open_bracket, close_bracket, equals_sign}
use Rattle.node_select.specs.readers.Selectors.{read_position, read_inside_quotes, read_value}
use Rattle.node_select.specs.Faults.{fault_ranking}
use Rattle.node_select.proofs.NameReading.{judged_attribute, judged_node_name, judged_test}
use Rattle.node_select.proofs.JudgedNames.{lawful_named, exact_name, prefixed, prefixed_attribute}

-- this character
abbrev pub Is : ℕ → ℕ → Type 0
Is d c = c ≡ d

pub clash : (b : Bool) → b ≡ true → b ≡ false → ⊥
clash b t f = cc

-- a character of the class isn't a character outside it
pub other : (p : ℕ → Bool) (c d : ℕ) → p d ≡ false → p c ≡ true → (c == d) ≡ false
other p c d no_d t = by (c == d) refl
  where
    by : (b : Bool) → (c == d) ≡ b → b ≡ false
    by false e = refl
    by true e = let same : c ≡ d = eqb-true c d e in let z : true ≡ false = sym t ∙ ap p same ∙ no_d in cc

left_false : (a b : Bool) → (a || b) ≡ false → a ≡ false
left_false false b h = refl
left_false true b h = h

right_false : (a b : Bool) → (a || b) ≡ false → b ≡ false
right_false false b h = h
right_false true b h = cc

and_not : (a b : Bool) → b ≡ true → (a && not b) ≡ false
and_not true b h = ap not h
and_not false b h = refl

-- ---- names

-- what a name, with a prefix or without, may go on with
abbrev pub in_qname : ℕ → Bool
in_qname c = is_name_char c || (c == 58)

module _ {K : Rest FaultKind} where
  colon_heads : Heads (Not in_qname) K → (cs : List ℕ) → Heads (Not is_name_char) (ahead (optional (keep_second (word colon) name)) (λ _. K))
  colon_heads h cs = heads_optional (starts_behind name (starts_word refl)) (heads_weaker (λ c m. left_false (is_name_char c) (c == 58) m) h)

module _ {faults : FaultRanking FaultKind} {K : Rest FaultKind} where
  pub exact_qname : Heads (Not in_qname) K → Exact faults qname (λ _. K) read_qname
  exact_qname h =
      exact_valued qname_of (exact_sequence (exact_name_of (colon_heads h)) (λ _.
      exact_optional_head (λ c. c == 58) (starts_behind name (starts_word refl)) (λ c m. m) h
      (λ c t m. let f = right_false (is_name_char c) (c == 58) m in cc)
      (exact_behind exact_word (exact_name_of (λ _. heads_weaker (λ c m. left_false (is_name_char c) (c == 58) m) h)))))

pub lawful_qname : Lawful qname
lawful_qname = lawful_valued qname_of (lawful_sequence lawful_name_of (λ _. lawful_optional (lawful_behind (lawful_word colon) lawful_name_of)))

pub starts_qname : Starts (λ c. is_name_start c ≡ true) qname
starts_qname = starts_valued qname_of (starts_sequence (λ _. optional (keep_second (word colon) name)) (starts_name_of is_name_char (λ c m. m)))

-- ---- references
starts_stands : {P : ℕ → Type 0} (c d : ℕ) (w : List ℕ) → P d → Starts P (predefined_entity c (d ∷ w))
starts_stands c d w h = starts_valued (λ _. c) (starts_word h)

m_not_p : Is 109 112 → ⊥
m_not_p h = omega arith

starts_a : (p : ℕ → Bool) → p 97 ≡ false → Starts (Not p) (either (predefined_entity 39 apos) (predefined_entity 38 amp))
starts_a p h = starts_either (starts_stands 39 97 (112 ∷ 111 ∷ 115 ∷ []) h) (starts_stands 38 97 (109 ∷ 112 ∷ []) h)

starts_entity : (p : ℕ → Bool) → p 108 ≡ false → p 103 ≡ false → p 113 ≡ false → p 97 ≡ false → Starts (Not p) entity
starts_entity p l g q a = starts_either (starts_stands 60 108 (116 ∷ []) l) (starts_either (starts_stands 62 103 (116 ∷ []) g) (starts_either (starts_stands 34 113 (117 ∷ 111 ∷ 116 ∷ []) q) (starts_a p a)))

module _ {faults : FaultRanking FaultKind} {K : ℕ → Rest FaultKind} where
  exact_stands : (c : ℕ) (w : List ℕ) → Exact faults (predefined_entity c w) K (read_mapped (λ _. c) (read_word w))
  exact_stands c w = exact_valued (λ _. c) exact_word

  exact_a : Exact faults (either (predefined_entity 39 apos) (predefined_entity 38 amp)) K (read_either (starts_with_word (97 ∷ 112 ∷ [])) (read_predefined_entity 39 apos) (read_predefined_entity 38 amp))
  exact_a =
      exact_either_next (97 ∷ []) 112 (led_valued (λ _. 39) (led_word (97 ∷ []) 112 (111 ∷ 115 ∷ []) refl)) (led_valued (λ _. 38) (led_word {Q = Is 109} (97 ∷ []) 109 (112 ∷ []) refl)) m_not_p
      (exact_stands 39 apos) (exact_stands 38 amp)

  exact_entity : Exact faults entity K read_entity
  exact_entity =
      exact_either_head (λ c. c == 108) (starts_stands 60 108 (116 ∷ []) refl) (λ c m. m)
      (heads_starts (starts_either (starts_stands 62 103 (116 ∷ []) refl) (starts_either (starts_stands 34 113 (117 ∷ 111 ∷ 116 ∷ []) refl) (starts_a (λ c. c == 108) refl)))) (λ c t m. clash (c == 108) t m)
      (exact_stands 60 lt)
      (exact_either_head (λ c. c == 103) (starts_stands 62 103 (116 ∷ []) refl) (λ c m. m)
      (heads_starts (starts_either (starts_stands 34 113 (117 ∷ 111 ∷ 116 ∷ []) refl) (starts_a (λ c. c == 103) refl))) (λ c t m. clash (c == 103) t m)
      (exact_stands 62 gt)
      (exact_either_head (λ c. c == 113) (starts_stands 34 113 (117 ∷ 111 ∷ 116 ∷ []) refl) (λ c m. m)
      (heads_starts (starts_a (λ c. c == 113) refl)) (λ c t m. clash (c == 113) t m)
      (exact_stands 34 quot) exact_a))

  exact_numbered : ((n : ℕ) → Heads (Not is_hex_digit) (K n)) → Exact faults char_ref K read_char_ref
  exact_numbered h =
      exact_behind exact_word
      (exact_either_head (λ c. c == 120) (starts_behind (number hexadecimal_digits max_char is_char) (starts_word refl)) (λ c m. m)
      (heads_starts (starts_number decimal_digits max_char is_char (λ c d. other is_digit c 120 refl d))) (λ c t m. clash (c == 120) t m)
      (exact_behind exact_word (exact_number hexadecimal_digits max_char is_char h))
      (exact_number decimal_digits max_char is_char (λ n. heads_weaker (λ c m. left_false (within 48 57 c) (within 65 70 c) (left_false (within 48 57 c || within 65 70 c) (within 97 102 c) m)) (h n))))

module _ {faults : FaultRanking FaultKind} {K : ℕ → Rest FaultKind} where
  pub exact_reference : Exact faults reference K read_reference
  exact_reference =
      exact_behind exact_word
      (exact_before
      (exact_either_head (λ c. c == 35) (starts_behind (either (keep_second (word letter_x) (number hexadecimal_digits max_char is_char)) (number decimal_digits max_char is_char)) (starts_word refl)) (λ c m. m)
      (heads_starts (starts_entity (λ c. c == 35) refl refl refl refl)) (λ c t m. clash (c == 35) t m)
      (exact_numbered (λ n. heads_starts (starts_word refl))) exact_entity)
      (λ n. exact_word))

pub starts_reference : Starts (λ c. (c == 38) ≡ true) reference
starts_reference = starts_behind (keep_first (either char_ref entity) (word semicolon)) (starts_word refl)

-- ---- values
raw_not_ampersand : (q c : ℕ) → (c == 38) ≡ true → is_raw_value_char q c ≡ false
raw_not_ampersand q c t = ap (is_raw_value_char q) (eqb-true c 38 t)

raw_not_quote : (q c : ℕ) → c ≡ q → is_raw_value_char q c ≡ false
raw_not_quote q c e = and_not (is_raw_char c) (c == q) (eq-eqb c q e)

quote_not_ampersand : (q c : ℕ) → is_quote q ≡ true → (c == 38) ≡ true → c ≡ q → ⊥
quote_not_ampersand q c is t e = let same : q ≡ 38 = sym e ∙ eqb-true c 38 t in let z : true ≡ false = sym is ∙ ap is_quote same in cc

module _ {faults : FaultRanking FaultKind} {K : Rest FaultKind} where
  exact_inside : (q : ℕ) → is_quote q ≡ true → Exact faults (map_rule literal_value (between_gaps (char_run (is_raw_value_char q)) reference)) (λ _. ahead (word (q ∷ [])) (λ _. K)) (read_inside_quotes q)
  exact_inside q is =
      exact_valued literal_value
      (exact_between_run_head (λ c. c == 38) starts_reference (λ c m. (m, raw_not_ampersand q c m)) (heads_starts (starts_word {P = Is q} refl)) (raw_not_quote q) (λ c t e. quote_not_ampersand q c is t e)
      exact_reference)

  pub exact_value : Exact faults value (λ _. K) read_value
  exact_value = exact_quoted (λ q is. exact_inside q is)

  -- ---- the parts of a step
  pub exact_position : Exact faults position (λ _. K) read_position
  exact_position = exact_behind exact_word (exact_before (exact_valued position_of (exact_some_of (λ _. heads_starts (starts_word refl)))) (λ _. exact_word))

-- ---- the laws of these rules
pub lawful_reference : Lawful reference
lawful_reference =
    lawful_behind (lawful_word ampersand)
    (lawful_before
    (lawful_either (lawful_behind (lawful_word hash) (lawful_either (lawful_behind (lawful_word letter_x) (lawful_number hexadecimal_digits max_char is_char)) (lawful_number decimal_digits max_char is_char)))
    (lawful_either (stands 60 lt) (lawful_either (stands 62 gt) (lawful_either (stands 34 quot) (lawful_either (stands 39 apos) (stands 38 amp))))))
    (lawful_word semicolon))
  where
    stands : (c : ℕ) (w : List ℕ) → Lawful (predefined_entity c w)
    stands c w = lawful_valued (λ _. c) (lawful_word w)

pub lawful_value : Lawful value
lawful_value = lawful_quoted (λ q. lawful_valued literal_value (lawful_between lawful_run lawful_reference (inl (ampersand, refl))))

pub lawful_position : Lawful position
lawful_position = lawful_behind (lawful_word open_bracket) (lawful_before (lawful_valued position_of lawful_some_of) (lawful_word close_bracket))

pub quiet_qname : Quiet qname
quiet_qname = quiet_valued qname_of (quiet_sequence quiet_name_of (λ _. quiet_optional (quiet_behind (quiet_word colon) quiet_name_of)))

module _ (bindings : List Decl) (default : List ℕ) where
  pub lawful_attribute : Lawful (attribute bindings default)
  lawful_attribute = lawful_behind (lawful_word at_sign) (lawful_named bindings (lawful_only is_attribute_name lawful_qname) (λ u n m. m.0))

  pub lawful_test : Lawful (test bindings default)
  lawful_test =
      lawful_behind (lawful_word open_bracket)
      (lawful_before (lawful_valued (attr_test bindings default) (lawful_sequence lawful_attribute (λ _. lawful_behind (lawful_word equals_sign) lawful_value))) (lawful_word close_bracket))

  pub lawful_node_name : Lawful (node_name bindings default)
  lawful_node_name = lawful_either (lawful_valued (λ _. Any) (lawful_word star)) (lawful_valued (element_test bindings default) (lawful_named bindings lawful_qname (λ u n m. m)))

module _ (bindings : List Decl) (default : List ℕ) (on : Bool) {K : Rest FaultKind} (inside : Inside K) where
  pub exact_attribute : Heads (Not in_qname) K → Exact (fault_ranking on) (attribute bindings default) (λ _. K) (judged_attribute bindings default on)
  exact_attribute h =
      exact_behind exact_word
      (exact_name bindings on (lawful_only is_attribute_name lawful_qname) (quiet_only is_attribute_name quiet_qname) (λ u n m. m.0) prefixed_attribute inside
      (exact_only is_attribute_name in_qname lawful_qname (λ _. h) (exact_qname heads_unless) (exact_qname h)))

  pub exact_node_name : Heads (Not in_qname) K → Exact (fault_ranking on) (node_name bindings default) (λ _. K) (judged_node_name bindings default on)
  exact_node_name h =
      exact_either_head (λ c. c == 42) (starts_valued (λ _. Any) (starts_word refl)) (λ c m. m)
      (heads_starts (starts_valued (element_test bindings default) (starts_judged (MarksUnboundName bindings) (starts_weaker (λ c m. other is_name_start c 42 refl m) starts_qname)))) (λ c t m. clash (c == 42) t m)
      (exact_valued (λ _. Any) exact_word)
      (exact_valued (element_test bindings default) (exact_name bindings on lawful_qname quiet_qname (λ u n m. m) prefixed inside (exact_qname h)))

module _ (bindings : List Decl) (default : List ℕ) (on : Bool) {K : Rest FaultKind} (inside : Inside K) where
  pub exact_test : Exact (fault_ranking on) (test bindings default) (λ _. K) (judged_test bindings default on)
  exact_test =
      exact_behind exact_word
      (exact_before
      (exact_valued (attr_test bindings default) (exact_sequence
      (exact_attribute bindings default on (inside_ahead (lawful_behind (lawful_word equals_sign) lawful_value) (λ _. inside_ahead (lawful_word close_bracket) (λ _. inside))) (heads_starts (starts_behind value (starts_word refl))))
      (λ _. exact_behind exact_word exact_value)))
      (λ _. exact_word))
