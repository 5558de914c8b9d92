-- Names, references, values and tags are read exactly.
use Rattle.std.proofs.Common.{◌≡◌, ℕ, true, false, List, [], ◌∷◌, inl, refl, arith}
use Rattle.std.specs.Prelude.{◌==◌}
use Rattle.std.proofs.lemmas.Bool.Decides.{nat_tests}
use Rattle.std.specs.Char.{is_ascii_digit as is_digit, is_ascii_hexdigit as is_hex_digit}
use Rattle.xml_names.specs.Characters.{is_char, is_space, is_name_start, is_name_char}
use Rattle.xml_grammar.specs.Digits.{decimal_digits, hexadecimal_digits}
use Rattle.xml_grammar.specs.Rules.{word, keep_second}
use Rattle.xml_grammar.specs.ParseResults.{FaultRanking}
use Rattle.xml_grammar.proofs.Exact.{Rest, ahead, Exact, exact_sequence}
use Rattle.xml_grammar.proofs.Leaves.{exact_word}
use Rattle.xml_grammar.proofs.Carry.{exact_valued, exact_sized}
use Rattle.xml_grammar.proofs.Heads.{Heads, heads_starts, heads_run, heads_optional, heads_weaker, heads_sequence, Starts, starts_word, starts_number, starts_sequence, starts_either, starts_valued, starts_sized, follows_starts}
use Rattle.xml_grammar.proofs.Greedy.{exact_run, exact_number}
use Rattle.xml_grammar.proofs.Laws.{Lawful, lawful_word, lawful_run, lawful_number, lawful_sequence, lawful_either, lawful_many, lawful_valued, lawful_sized, lawful_optional, lawful_between, lawful_name_of, lawful_some_of, lawful_before, lawful_behind, lawful_quoted, Quiet, quiet_word, quiet_run, quiet_number, quiet_sequence, quiet_either, quiet_many, quiet_valued, quiet_sized, quiet_optional, quiet_between, quiet_name_of, quiet_some_of, quiet_before, quiet_behind, quiet_quoted, Inside, inside_ahead}
use Rattle.xml_grammar.proofs.Repeats.{heads_many}
use Rattle.xml_grammar.proofs.ClosedRules.{anything, inside_anything, exact_closed}
use Rattle.xml_grammar.proofs.Shapes.{exact_before, exact_behind, exact_name_of, exact_some_of, exact_quoted, starts_behind, starts_some_of, starts_name_of, starts_quoted, heads_before, heads_behind, inside_past_member}
use Rattle.xml_grammar.proofs.LedRules.{Led, led_word, led_then, led_valued, led_sized}
use Rattle.xml_grammar.proofs.Tests.{exact_either_head, exact_optional_head, exact_between_run_head, exact_either_next}
use Rattle.xml_grammar.proofs.SpacedRules.{blank_some_of, Leads, leads_sequence, leads_valued, spaced_run, exact_spaced_many}
use Rattle.xml_tokens.specs.readers.Literals.{less, greater, empty_tag_end, colon, ampersand, semicolon, hash, letter_x, amp, lt, gt, quot, apos, equals_sign}
use Rattle.xml_tokens.specs.declared.fault_kind.FaultKind.{FaultKind}
use Rattle.xml_tokens.specs.Values.{qname_of, normalized_value as value_of}
use Rattle.tree_text.specs.readers.TagValues.{raw_attribute_of, start_tag_of}
use Rattle.xml_tokens.specs.Tokens.{name, qname, spaces, equals, predefined_entity, entity, max_char, char_ref, reference, is_quote, is_raw_value_char, value}
use Rattle.tree_text.specs.Grammar.{attribute, raw_attribute, tag_end, start_tag}
use Rattle.xml_tokens.specs.readers.Tokens.{read_name, read_qname, read_spaces, read_equals, read_predefined_entity, read_entity, read_char_ref, read_reference, read_value}
use Rattle.tree_text.specs.readers.Texts.{read_attribute, read_raw_attribute, read_tag_end, read_tag}
use Rattle.xml_tokens.proofs.NameFronts.{NoName}

-- neither a name character nor a colon
abbrev pub NoQName : ℕ → Type 0
NoQName c = (is_name_char c ≡ false) × ((c == 58) ≡ false)

abbrev pub NoSpace : ℕ → Type 0
NoSpace c = is_space c ≡ false

pub space_no_qname : (c : ℕ) → is_space c ≡ true → NoQName c
space_no_qname c h = (grind (arith, nat_tests), grind (arith, nat_tests))

pub start_no_space : (c : ℕ) → is_name_start c ≡ true → NoSpace c
start_no_space c h = grind (arith, nat_tests)

pub quote_no_space : (c : ℕ) → is_quote c ≡ true → NoSpace c
quote_no_space c h = grind (arith, nat_tests)

quote_no_amp : (c : ℕ) → is_quote c ≡ true → (c == 38) ≡ false
quote_no_amp c h = grind (arith, nat_tests)

no_own_quote : (q c : ℕ) → c ≡ q → is_raw_value_char q c ≡ false
no_own_quote q c e = grind (arith, nat_tests)

pub same : (d c : ℕ) → c ≡ d → (c == d) ≡ true
same d c e = grind (arith, nat_tests)

pub apart : (d : ℕ) (c : ℕ) → (c == d) ≡ true → (c == d) ≡ false → ⊥
apart d c t f = absurd cc

-- # Names

module _ (faults : FaultRanking FaultKind) where
  pub exact_name : {K : Rest FaultKind} → Heads NoName K → Exact faults name (λ _. K) read_name
  exact_name h = exact_name_of (λ _. h)

  starts_colon : {P : ℕ → Type 0} → P 58 → Starts P (keep_second (word {Kind = FaultKind} colon) name)
  starts_colon h = starts_behind name (starts_word h)

  pub exact_qname : {K : Rest FaultKind} → Heads NoQName K → Exact faults qname (λ _. K) read_qname
  exact_qname {K} h =
      let after : Heads NoName K = heads_weaker (λ c x. x.0) h in
      exact_valued qname_of (exact_sequence
      (exact_name_of (λ _. heads_optional (starts_colon refl) after))
      (λ _. exact_optional_head (λ c. c == 58) (starts_colon {P = λ c. c ≡ 58} refl) (same 58) h (λ c t n. apart 58 c t n.1) (exact_behind exact_word (exact_name after))))

  pub starts_qname : {P : ℕ → Type 0} → ((c : ℕ) → is_name_start c ≡ true → P c) → Starts P qname
  starts_qname h = starts_valued qname_of (starts_sequence _ (starts_name_of is_name_char h))

  pub lawful_qname : Lawful qname
  lawful_qname = lawful_valued qname_of (lawful_sequence lawful_name_of (λ _. lawful_optional (lawful_behind (lawful_word colon) lawful_name_of)))

  pub quiet_qname : Quiet qname
  quiet_qname = quiet_valued qname_of (quiet_sequence quiet_name_of (λ _. quiet_optional (quiet_behind (quiet_word colon) quiet_name_of)))

  -- # White space and `=`

  pub exact_spaces : {K : Rest FaultKind} → Heads NoSpace K → Exact faults spaces (λ _. K) read_spaces
  exact_spaces h = exact_run (λ _. h)

  pub exact_equals : {K : Rest FaultKind} → Heads NoSpace K → Exact faults equals (λ _. K) read_equals
  exact_equals {K} h = exact_behind (exact_spaces (heads_starts (starts_behind spaces (starts_word refl)))) (exact_behind exact_word (exact_spaces h))

  pub heads_equals : {P : ℕ → Type 0} {K : Rest FaultKind} → ((c : ℕ) → is_space c ≡ true → P c) → P 61 → Heads P (ahead equals (λ _. K))
  heads_equals h i = heads_behind (heads_run h (λ _. heads_starts (starts_behind spaces (starts_word i))))

  pub lawful_equals : Lawful equals
  lawful_equals = lawful_behind lawful_run (lawful_behind (lawful_word equals_sign) lawful_run)

  pub quiet_equals : Quiet equals
  quiet_equals = quiet_behind quiet_run (quiet_behind (quiet_word equals_sign) quiet_run)

  -- # References

  exact_stands_for : {c : ℕ} {w : List ℕ} {K : Rest FaultKind} → Exact faults (predefined_entity c w) (λ _. K) (read_predefined_entity c w)
  exact_stands_for {c} = exact_valued (λ _. c) exact_word

  exact_entity : {K : Rest FaultKind} → Exact faults entity (λ _. K) read_entity
  exact_entity {K} = exact_either_head (λ c. c == 108) (starts_valued _ (starts_word {P = λ c. c ≡ 108} refl)) (same 108) (heads_starts (starts_either (starts_valued _ (starts_word refl)) (starts_either (starts_valued _ (starts_word refl)) (starts_either (starts_valued _ (starts_word refl)) (starts_valued _ (starts_word refl)))))) (apart 108) exact_stands_for
      (exact_either_head (λ c. c == 103) (starts_valued _ (starts_word {P = λ c. c ≡ 103} refl)) (same 103) (heads_starts (starts_either (starts_valued _ (starts_word refl)) (starts_either (starts_valued _ (starts_word refl)) (starts_valued _ (starts_word refl))))) (apart 103) exact_stands_for
      (exact_either_head (λ c. c == 113) (starts_valued _ (starts_word {P = λ c. c ≡ 113} refl)) (same 113) (heads_starts (starts_either (starts_valued _ (starts_word refl)) (starts_valued _ (starts_word refl)))) (apart 113) exact_stands_for
      (exact_either_next (97 ∷ []) 112 (led_valued _ (led_word (97 ∷ []) 112 (111 ∷ 115 ∷ []) refl)) (led_valued _ (led_word {Q = λ c. c ≡ 109} (97 ∷ []) 109 (112 ∷ []) refl)) (λ e. absurd (omega (arith, e))) exact_stands_for exact_stands_for)))

  exact_numbered : {K : Rest FaultKind} → Heads (λ c. (is_digit c ≡ false) × (is_hex_digit c ≡ false)) K → Exact faults char_ref (λ _. K) read_char_ref
  exact_numbered {K} h = exact_behind exact_word
      (exact_either_head (λ c. c == 120) (starts_behind _ (starts_word {P = λ c. c ≡ 120} refl)) (same 120)
      (heads_starts (starts_number {P = λ c. (c == 120) ≡ false} decimal_digits max_char is_char digit_no_x)) (apart 120)
      (exact_behind exact_word (exact_number hexadecimal_digits max_char is_char (λ _. heads_weaker (λ c x. x.1) h)))
      (exact_number decimal_digits max_char is_char (λ _. heads_weaker (λ c x. x.0) h)))
    where
      digit_no_x : (c : ℕ) → is_digit c ≡ true → (c == 120) ≡ false
      digit_no_x c t = grind (arith, nat_tests)

  -- a reference is closed
  pub closed_reference : Exact faults reference (λ _. anything) read_reference
  closed_reference = exact_behind exact_word (exact_before
      (exact_either_head (λ c. c == 35) (starts_behind _ (starts_word {P = λ c. c ≡ 35} refl)) (same 35)
      (heads_starts (starts_either (starts_valued _ (starts_word refl)) (starts_either (starts_valued _ (starts_word refl)) (starts_either (starts_valued _ (starts_word refl)) (starts_either (starts_valued _ (starts_word refl)) (starts_valued _ (starts_word refl))))))) (apart 35)
      (exact_numbered (heads_starts (starts_word (refl, refl))))
      exact_entity)
      (λ _. exact_word))

  pub starts_reference : {P : ℕ → Type 0} → P 38 → Starts P reference
  starts_reference h = starts_behind _ (starts_word h)

  pub lawful_reference : Lawful reference
  lawful_reference = lawful_behind (lawful_word ampersand) (lawful_before (lawful_either
      (lawful_behind (lawful_word hash) (lawful_either (lawful_behind (lawful_word letter_x) (lawful_number hexadecimal_digits max_char is_char)) (lawful_number decimal_digits max_char is_char)))
      (lawful_either (lawful_valued _ (lawful_word lt)) (lawful_either (lawful_valued _ (lawful_word gt)) (lawful_either (lawful_valued _ (lawful_word quot)) (lawful_either (lawful_valued _ (lawful_word apos)) (lawful_valued _ (lawful_word amp)))))))
      (lawful_word semicolon))

  pub quiet_reference : Quiet reference
  quiet_reference = quiet_behind (quiet_word ampersand) (quiet_before (quiet_either
      (quiet_behind (quiet_word hash) (quiet_either (quiet_behind (quiet_word letter_x) (quiet_number hexadecimal_digits max_char is_char)) (quiet_number decimal_digits max_char is_char)))
      (quiet_either (quiet_valued _ (quiet_word lt)) (quiet_either (quiet_valued _ (quiet_word gt)) (quiet_either (quiet_valued _ (quiet_word quot)) (quiet_either (quiet_valued _ (quiet_word apos)) (quiet_valued _ (quiet_word amp)))))))
      (quiet_word semicolon))

  -- # Values

  exact_value : (q : ℕ) {K : Rest FaultKind} → is_quote q ≡ true → Inside K → Exact faults (value q) (λ _. ahead (word (q ∷ [])) (λ _. K)) (read_value q)
  exact_value q {K} h inside = exact_valued value_of (exact_between_run_head (λ c. c == 38) (starts_reference {P = λ c. c ≡ 38} refl)
      (λ c e. (same 38 c e, grind (arith, nat_tests)))
      (heads_starts (starts_word {P = λ c. c ≡ q} refl)) (no_own_quote q)
      (λ c t e. absurd (let f = quote_no_amp q h in grind (arith, nat_tests)))
      (exact_closed (inside_past_member lawful_run lawful_reference (inl (_, refl)) (inside_ahead (lawful_word (q ∷ [])) (λ _. inside))) closed_reference))

  lawful_value : (q : ℕ) → Lawful (value q)
  lawful_value q = lawful_valued value_of (lawful_between lawful_run lawful_reference (inl (_, refl)))

  quiet_value : (q : ℕ) → Quiet (value q)
  quiet_value q = quiet_valued value_of (quiet_between quiet_run quiet_reference)

  -- # Attributes

  pub closed_attribute : Exact faults attribute (λ _. anything) read_attribute
  closed_attribute = exact_sequence
      (exact_qname (heads_behind (heads_equals space_no_qname (refl, refl))))
      (λ _. exact_behind (exact_equals (heads_starts (starts_quoted value quote_no_space))) (exact_quoted (λ q h. exact_value q h inside_anything)))

  pub starts_attribute : {P : ℕ → Type 0} → ((c : ℕ) → is_name_start c ≡ true → P c) → Starts P attribute
  starts_attribute h = starts_sequence _ (starts_qname h)

  pub lawful_attribute : Lawful attribute
  lawful_attribute = lawful_sequence lawful_qname (λ _. lawful_behind lawful_equals (lawful_quoted lawful_value))

  pub quiet_attribute : Quiet attribute
  quiet_attribute = quiet_sequence quiet_qname (λ _. quiet_behind quiet_equals (quiet_quoted quiet_value))

  lawful_said : Lawful raw_attribute
  lawful_said = lawful_valued raw_attribute_of (lawful_sequence lawful_some_of (λ _. lawful_sized lawful_attribute))

  quiet_said : Quiet raw_attribute
  quiet_said = quiet_valued raw_attribute_of (quiet_sequence quiet_some_of (λ _. quiet_sized quiet_attribute))

  leads_said : Leads is_space (λ c. is_name_start c ≡ true) raw_attribute
  leads_said = leads_valued is_space raw_attribute_of (leads_sequence is_space start_no_space (blank_some_of is_space) (starts_sized (starts_attribute (λ c t. t))))

  exact_said : {K : Rest FaultKind} → Inside K → Exact faults raw_attribute (λ _. K) read_raw_attribute
  exact_said inside = exact_valued raw_attribute_of (exact_sequence (exact_some_of (λ _. heads_starts (starts_sized (starts_attribute start_no_space)))) (λ _. exact_sized (exact_closed (λ _. inside) closed_attribute)))

  -- # Tags

  exact_tag_end : {K : Rest FaultKind} → Exact faults tag_end (λ _. K) read_tag_end
  exact_tag_end {K} = exact_either_head (λ c. c == 47) (starts_valued _ (starts_word {P = λ c. c ≡ 47} refl)) (same 47) (heads_starts (starts_valued _ (starts_word refl))) (apart 47) (exact_valued (λ _. true) exact_word) (exact_valued (λ _. false) exact_word)

  starts_tag_end : {P : ℕ → Type 0} → P 47 → P 62 → Starts P tag_end
  starts_tag_end h i = starts_either (starts_valued _ (starts_word h)) (starts_valued _ (starts_word i))

  -- neither white space nor the first character of a name
  abbrev Ending : ℕ → Type 0
  Ending c = (is_space c ≡ false) × (is_name_start c ≡ false)

  lawful_tag_end : Lawful tag_end
  lawful_tag_end = lawful_either (lawful_valued _ (lawful_word empty_tag_end)) (lawful_valued _ (lawful_word greater))

  -- a tag is closed
  pub closed_tag : Exact faults start_tag (λ _. anything) read_tag
  closed_tag = exact_valued start_tag_of (exact_sized (exact_behind exact_word (exact_sequence
      (exact_qname (heads_sequence (heads_before (heads_many (starts_valued raw_attribute_of (starts_sequence _ (starts_some_of space_no_qname))) (heads_run space_no_qname (λ _. heads_starts (starts_tag_end (refl, refl) (refl, refl))))))))
      (λ _. exact_sequence
      (exact_before
      (exact_spaced_many is_space is_name_start leads_said (spaced_run is_space (λ c x. x.0) (heads_starts (starts_tag_end {P = Ending} (refl, refl) (refl, refl))) (follows_starts (starts_tag_end {P = Ending} (refl, refl) (refl, refl)))) (λ c t. t) (λ c t f. let g = f.1 in absurd cc)
      (exact_said (inside_ahead (lawful_many lawful_said (inl (inl (inl refl)))) (λ _. inside_ahead lawful_run (λ _. inside_ahead lawful_tag_end (λ _. inside_anything))))))
      (λ _. exact_spaces (heads_starts (starts_tag_end refl refl))))
      (λ _. exact_tag_end)))))

  pub lawful_tag : Lawful start_tag
  lawful_tag = lawful_valued start_tag_of (lawful_sized (lawful_behind (lawful_word less) (lawful_sequence lawful_qname (λ _. lawful_sequence (lawful_before (lawful_many lawful_said (inl (inl (inl refl)))) lawful_run) (λ _. lawful_tag_end)))))

  pub quiet_tag : Quiet start_tag
  quiet_tag = quiet_valued start_tag_of (quiet_sized (quiet_behind (quiet_word less) (quiet_sequence quiet_qname (λ _. quiet_sequence (quiet_before (quiet_many quiet_said) quiet_run) (λ _. quiet_either (quiet_valued _ (quiet_word empty_tag_end)) (quiet_valued _ (quiet_word greater)))))))

  -- `<`, and the first character of a name
  pub led_tag : Led (60 ∷ []) (λ c. is_name_start c ≡ true) start_tag
  led_tag = led_valued start_tag_of (led_sized (led_valued (λ x. x.1) (led_then (60 ∷ []) (starts_sequence _ (starts_qname (λ c t. t))))))
