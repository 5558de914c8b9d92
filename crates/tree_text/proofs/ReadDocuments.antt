-- Documents are read exactly.
use Rattle.std.proofs.Common.{◌≡◌, ℕ, suc, ◌+◌, ◌<◌, Bool, true, false, cond, List, [], ◌∷◌, ◌++◌, length, drop, Result, Err, ◌⊎◌, inl, inr, ⊎_elim, refl, sym, ap, subst, ◌∙◌, arith}
use Rattle.std.specs.Prelude.{◌||◌, ◌==◌, Option, None, Some}
use Rattle.std.proofs.lemmas.Bool.Decides.{nat_tests}
use Rattle.std.proofs.lemmas.List.{length-append, append_cancel_right}
use Rattle.xml_names.specs.Characters.{is_space, is_name_start}
use Rattle.xml_tree.specs.Tree.{Tree}
use Rattle.xml_names.specs.declared.names.Decl.{Decl}
use Rattle.std.specs.Char.{is_ascii_digit as is_digit}
use Rattle.xml_grammar.specs.Rules.{Begin, Rule, word, either, with_value_marks, refused_word, optional, keep_first, keep_second}
use Rattle.xml_grammar.specs.TextReading.{Reader, Stop, Syntax, first_char_is, starts_with_word, read_word}
use Rattle.xml_grammar.specs.readers.RuleReaders.{read_whole_text, read_second, read_first}
use Rattle.xml_grammar.specs.ParseResults.{FaultRanking, IsParseResult}
use Rattle.xml_grammar.proofs.Exact.{Rest, ahead, IsStopped, Outcome, Exact}
use Rattle.xml_grammar.proofs.Leaves.{exact_word}
use Rattle.xml_grammar.proofs.Carry.{Covers, exact_valued, exact_either, covers_either}
use Rattle.xml_grammar.proofs.Heads.{Heads, heads_starts, heads_run, heads_optional, heads_valued, heads_sequence, starts_word, starts_sequence, follows_starts}
use Rattle.xml_grammar.proofs.Repeats.{heads_many}
use Rattle.xml_grammar.proofs.Fronts.{starts_is}
use Rattle.xml_grammar.proofs.Laws.{Lawful, lawful_one, lawful_word, lawful_only, lawful_run, lawful_either, lawful_valued, lawful_judged, lawful_trap, lawful_optional, lawful_between, lawful_some_of, lawful_name_of, lawful_before, lawful_behind, lawful_quoted, Quiet, quiet_word, quiet_run, quiet_valued, quiet_either, quiet_optional, quiet_some_of, quiet_name_of, quiet_before, quiet_behind, quiet_quoted, Inside, inside_ahead}
use Rattle.xml_grammar.proofs.Beginnings.{Fronted, fronted_one, fronted_word, fronted_up_to, fronted_either, fronted_valued, fronted_only, fronted_behind, fronted_name_of}
use Rattle.xml_grammar.proofs.ClosedRules.{anything, inside_anything, exact_closed}
use Rattle.xml_grammar.proofs.Marks.{Judges, exact_judged, exact_trap, trap_covers}
use Rattle.xml_grammar.proofs.Shapes.{exact_before, exact_behind, exact_optional, exact_some_of, exact_name_of, exact_quoted, exact_between, starts_behind, starts_some_of, starts_quoted, heads_behind, past_member, inside_past_member}
use Rattle.xml_grammar.proofs.LedRules.{Led, led_then, led_valued, led_before, led_either, led_judged, led_trap, led_weaker, led_shorter, starts_led, led_covers, led_covers_rest, next_is, next_true, next_false, stopped_covers}
use Rattle.xml_grammar.proofs.Tests.{passed_covers, failed_covers, exact_either_head, exact_optional_head, exact_either_next}
use Rattle.xml_grammar.proofs.SpacedRules.{blank_some_of, Leads, leads_weaker, leads_behind, Spaced, spaced_run, spaced_behind, spaced_optional, exact_spaced_optional}
use Rattle.xml_grammar.proofs.Whole.{ends, heads_ends, inside_ends, answers_whole}
use Rattle.xml_markup.specs.readers.Literals.{pi_start, pi_end, declaration_start, version_start, encoding, standalone, yes, no, bang, doctype, byte_order_mark}
use Rattle.xml_tokens.specs.declared.fault_kind.FaultKind.{FaultKind}
use Rattle.xml_tokens.specs.declared.fault_kind.FaultKind.TheVariants.{Encoded, Doctyped}
use Rattle.tree_text.specs.FaultKinds.{is_fault, rank, fault_ranking}
use Rattle.xml_tokens.specs.Tokens.{spaces, is_quote, is_encoding_char}
use Rattle.xml_markup.specs.Grammar.{without_value, version_number, encoding_name, yes_or_no, pseudo_attribute, xml_declaration, is_supported_encoding, MarksUnsupportedEncoding, comment, is_pi_target, pi_rest, processing_instruction, misc, prolog, epilog}
use Rattle.tree_text.specs.Grammar.{element, document}
use Rattle.xml_tokens.specs.readers.Tokens.{read_spaces}
use Rattle.xml_markup.specs.readers.Markup.{read_without_value, read_version_number, read_encoding_name, read_yes_or_no, read_pseudo_attribute, read_xml_declaration, encoding_fault, declaration_follows, read_misc, misc_follows, read_prolog_misc, read_prolog, less_follows, read_epilog}
use Rattle.tree_text.specs.readers.Texts.{read_element, read_text}
use Rattle.tree_text.proofs.ReadParts.{NoSpace, quote_no_space, exact_spaces, exact_equals, lawful_equals, quiet_equals, same, apart}
use Rattle.tree_text.proofs.ReadTexts.{closed_comment, lawful_comment, led_comment, led_bang_comment, closed_instruction, lawful_instruction, led_instruction}
use Rattle.tree_text.proofs.ReadElements.{both_true, led_element, lawful_element, exact_element}

-- # The XML declaration

quote_no_digit : (q : ℕ) → is_quote q ≡ true → is_digit q ≡ false
quote_no_digit q h = grind (arith, nat_tests)

quote_no_encoding : (q : ℕ) → is_quote q ≡ true → is_encoding_char q ≡ false
quote_no_encoding q h = grind (arith, nat_tests)

letter_no_space : (d : ℕ) → is_space d ≡ false → (c : ℕ) → c ≡ d → is_space c ≡ false
letter_no_space d h c e = ap is_space e ∙ h

abbrev IsMisc : ℕ → Type 0
IsMisc c = (c == 33) || (c == 63) ≡ true

abbrev Gap : Rule FaultKind (Unit {0})
Gap = without_value spaces

either_true : (a b : Bool) → a || b ≡ true → (a ≡ true) ⊎ (b ≡ true)
either_true true b h = inl refl
either_true false b h = inr h

both_false : (a b : Bool) → a || b ≡ false → (a ≡ false) × (b ≡ false)
both_false true b h = absurd cc
both_false false b h = (refl, h)

four_true : (a b c d : Bool) → a || b || c || d ≡ true → (a ≡ true) ⊎ ((b ≡ true) ⊎ ((c ≡ true) ⊎ (d ≡ true)))
four_true true b c d h = inl refl
four_true false true c d h = inr (inl refl)
four_true false false true d h = inr (inr (inl refl))
four_true false false false d h = inr (inr (inr h))

-- the mark of a foreign encoding
some_is : {A : Type 0} {a b : A} → let o : Option A = Some a in o ≡ Some b → a ≡ b
some_is e = cc

said_foreign : (a : Option (List ℕ)) (x : FaultKind × ℕ) → encoding_fault a ≡ Some x → MarksUnsupportedEncoding a x.0 x.1
said_foreign None x h = absurd cc
said_foreign (Some n) x h = by_ours (is_supported_encoding n) refl h
  where
    by_ours : (b : Bool) → is_supported_encoding n ≡ b → cond {A = Option (FaultKind × ℕ)} b None (Some (Encoded, 2)) ≡ Some x → MarksUnsupportedEncoding (Some n) x.0 x.1
    by_ours true e k = absurd cc
    by_ours false e k = let s = some_is k in (n, refl, e, sym (ap (λ (z : FaultKind × ℕ). z.0) s), sym (ap (λ (z : FaultKind × ℕ). z.1) s))

foreign_said : (a : Option (List ℕ)) (k : FaultKind) (b : ℕ) → encoding_fault a ≡ None → MarksUnsupportedEncoding a k b → ⊥
foreign_said a k b none m = by_ours (is_supported_encoding m.0) m.2 (ap encoding_fault (sym m.1) ∙ none)
  where
    by_ours : (c : Bool) → c ≡ false → cond {A = Option (FaultKind × ℕ)} c None (Some (Encoded, 2)) ≡ None → ⊥
    by_ours true e h = absurd cc
    by_ours false e h = absurd cc

module _ (fault_ranking : FaultRanking FaultKind) where
  module _ {A : Type 0} (c : ℕ) (cs : List ℕ) (no_space : is_space c ≡ false) (r : Rule FaultKind A) where
    lawful_declared : Lawful r → Lawful (pseudo_attribute (c ∷ cs) r)
    lawful_declared h = lawful_behind lawful_some_of (lawful_behind (lawful_word (c ∷ cs)) (lawful_behind (lawful_equals fault_ranking) (lawful_quoted (λ _. h))))

    quiet_declared : Quiet r → Quiet (pseudo_attribute (c ∷ cs) r)
    quiet_declared h = quiet_behind quiet_some_of (quiet_behind (quiet_word (c ∷ cs)) (quiet_behind (quiet_equals fault_ranking) (quiet_quoted (λ _. h))))

    leads_declared : Leads is_space (λ d. d ≡ c) (pseudo_attribute (c ∷ cs) r)
    leads_declared = leads_behind is_space (letter_no_space c no_space) (blank_some_of is_space) (starts_behind _ (starts_word refl))

    closed_declared : (p : Reader FaultKind A) → ((q : ℕ) → is_quote q ≡ true → Exact fault_ranking r (λ _. ahead (word (q ∷ [])) (λ _. anything)) p) → Exact fault_ranking (pseudo_attribute (c ∷ cs) r) (λ _. anything) (read_pseudo_attribute (c ∷ cs) p)
    closed_declared p h = exact_behind (exact_some_of (λ _. heads_starts (starts_behind _ (starts_word no_space))))
        (exact_behind exact_word (exact_behind (exact_equals fault_ranking (heads_starts (starts_quoted (λ _. r) quote_no_space))) (exact_quoted h)))

  exact_version : (q : ℕ) → is_quote q ≡ true → Exact fault_ranking version_number (λ _. ahead (word (q ∷ [])) (λ _. anything)) read_version_number
  exact_version q h = exact_valued (λ _. tt) (exact_behind exact_word (exact_some_of (λ _. heads_starts (starts_word (quote_no_digit q h)))))

  exact_encoding : (q : ℕ) → is_quote q ≡ true → Exact fault_ranking encoding_name (λ _. ahead (word (q ∷ [])) (λ _. anything)) read_encoding_name
  exact_encoding q h = exact_name_of (λ _. heads_starts (starts_word (quote_no_encoding q h)))

  exact_yes_or_no : (q : ℕ) → is_quote q ≡ true → Exact fault_ranking yes_or_no (λ _. ahead (word (q ∷ [])) (λ _. anything)) read_yes_or_no
  exact_yes_or_no q h = exact_either_head (λ c. c == 121) (starts_word {P = λ c. c ≡ 121} refl) (same 121) (heads_starts (starts_word refl)) (apart 121) exact_word exact_word

  abbrev Ended : Rule FaultKind (Unit {0})
  Ended = keep_second spaces (word pi_end)

  abbrev Alone : Rule FaultKind (Option (Unit {0}))
  Alone = optional (pseudo_attribute standalone yes_or_no)

  abbrev Encoding : Rule FaultKind (Option (List ℕ))
  Encoding = optional (pseudo_attribute encoding encoding_name)

  -- no white space, and neither of these letters
  abbrev NoLetter : ℕ → ℕ → Type 0
  NoLetter d c = (is_space c ≡ false) × ((c == d) ≡ false)

  spaced_ended : {P : ℕ → Type 0} → ((c : ℕ) → P c → is_space c ≡ false) → P 63 → Spaced is_space P (ahead Ended (λ _. anything))
  spaced_ended {P} h i = spaced_behind is_space (spaced_run is_space h (heads_starts (starts_word {P = P} i)) (follows_starts (starts_word {P = P} i)))

  exact_ended : Exact fault_ranking Ended (λ _. anything) (read_second read_spaces (read_word pi_end))
  exact_ended = exact_behind (exact_spaces fault_ranking (heads_starts (starts_word refl))) exact_word

  lawful_ended : Lawful Ended
  lawful_ended = lawful_behind lawful_run (lawful_word pi_end)

  lawful_yes_or_no : Lawful yes_or_no
  lawful_yes_or_no = lawful_either (lawful_word yes) (lawful_word no)

  lawful_alone : Lawful Alone
  lawful_alone = lawful_optional (lawful_declared 115 _ refl yes_or_no lawful_yes_or_no)

  lawful_encoding : Lawful Encoding
  lawful_encoding = lawful_optional (lawful_declared 101 _ refl encoding_name lawful_name_of)

  closed_declaration : Exact fault_ranking xml_declaration (λ _. anything) read_xml_declaration
  closed_declaration = exact_behind exact_word (exact_behind
      (exact_closed (λ _. inside_ahead (lawful_before lawful_encoding (lawful_behind lawful_alone lawful_ended)) (λ _. inside_anything)) (closed_declared 118 _ refl version_number read_version_number exact_version))
      (exact_before
      (exact_spaced_optional is_space (λ c. c == 101) (leads_declared 101 _ refl encoding_name)
      (spaced_behind is_space (spaced_optional is_space (leads_weaker is_space (λ c e. grind (arith, nat_tests)) (leads_declared 115 _ refl yes_or_no)) (spaced_ended {P = NoLetter 101} (λ c x. x.0) (refl, refl))))
      (same 101) (λ c t n. apart 101 c t n.1)
      (exact_closed (λ _. inside_ahead (lawful_behind lawful_alone lawful_ended) (λ _. inside_anything)) (closed_declared 101 _ refl encoding_name read_encoding_name exact_encoding)))
      (λ _. exact_behind
      (exact_spaced_optional is_space (λ c. c == 115) (leads_declared 115 _ refl yes_or_no)
      (spaced_ended {P = NoLetter 115} (λ c x. x.0) (refl, refl))
      (same 115) (λ c t n. apart 115 c t n.1)
      (exact_closed (λ _. inside_ahead lawful_ended (λ _. inside_anything)) (closed_declared 115 _ refl yes_or_no read_yes_or_no exact_yes_or_no)))
      exact_ended)))

  lawful_declaration : Lawful xml_declaration
  lawful_declaration = lawful_behind (lawful_word declaration_start) (lawful_behind (lawful_declared 118 _ refl version_number (lawful_valued _ (lawful_behind (lawful_word version_start) lawful_some_of))) (lawful_before lawful_encoding (lawful_behind lawful_alone lawful_ended)))

  quiet_declaration : Quiet xml_declaration
  quiet_declaration = quiet_behind (quiet_word declaration_start) (quiet_behind (quiet_declared 118 _ refl version_number (quiet_valued _ (quiet_behind (quiet_word version_start) quiet_some_of)))
      (quiet_before (quiet_optional (quiet_declared 101 _ refl encoding_name quiet_name_of)) (quiet_behind (quiet_optional (quiet_declared 115 _ refl yes_or_no (quiet_either (quiet_word yes) (quiet_word no)))) (quiet_behind quiet_run (quiet_word pi_end)))))

  -- `<?xml`, and white space
  led_declaration : Led declaration_start (λ c. is_space c ≡ true) xml_declaration
  led_declaration = led_valued (λ x. x.1) (led_then declaration_start (starts_behind _ (starts_behind _ (starts_some_of (λ c t. t)))))

  -- # Comments and instructions outside the root element

  led_bang : Led (60 ∷ []) (λ c. c ≡ 33) (without_value comment)
  led_bang = led_valued _ (led_bang_comment fault_ranking)

  closed_misc : Exact fault_ranking misc (λ _. anything) read_misc
  closed_misc = exact_either_next (60 ∷ []) 33 led_bang (led_instruction fault_ranking) (λ e. absurd (omega (arith, e))) (exact_valued (λ _. tt) (closed_comment fault_ranking)) (closed_instruction fault_ranking)

  lawful_misc : Lawful misc
  lawful_misc = lawful_either (lawful_valued _ (lawful_comment fault_ranking)) (lawful_instruction fault_ranking)

  led_misc : Led (60 ∷ []) IsMisc misc
  led_misc = led_either (led_weaker (λ c e. grind (arith, nat_tests)) led_bang) (led_weaker (λ c e. grind (arith, nat_tests)) (led_instruction fault_ranking))

  exact_gap : {K : Rest FaultKind} → Heads NoSpace K → Exact fault_ranking Gap (λ _. K) (read_without_value read_spaces)
  exact_gap h = exact_valued (λ _. tt) (exact_spaces fault_ranking h)

  lawful_gap : Lawful Gap
  lawful_gap = lawful_valued _ lawful_run

  heads_gap : {P : ℕ → Type 0} {K : Rest FaultKind} → ((c : ℕ) → is_space c ≡ true → P c) → Heads P K → Heads P (ahead Gap (λ _. K))
  heads_gap h k = heads_valued (λ _. tt) (heads_run h (λ _. k))

  -- after the root element
  nothing_ends : (text : List ℕ) → first_char_is (λ c. c == 60) text ≡ true → Covers fault_ranking text ends (ahead misc (past_member Gap misc ends))
  nothing_ends text t = passed_covers (λ c. c == 60) (heads_ends {P = λ c. ⊥}) (λ c h n. n) t

  exact_epilog : Exact fault_ranking epilog (λ _. ends) read_epilog
  exact_epilog = exact_valued (λ _. tt) (exact_between less_follows (starts_led {P = NoSpace} refl led_misc) refl
      nothing_ends
      (λ text f. failed_covers (λ c. c == 60) (starts_led {P = λ c. c ≡ 60} refl led_misc) (same 60) f)
      (exact_gap (heads_many (starts_sequence _ (starts_led {P = NoSpace} refl led_misc)) heads_ends))
      (exact_closed (inside_past_member lawful_gap lawful_misc (inl (led_bang.fronts [] (60 ∷ []) refl)) inside_ends) closed_misc))

  lawful_epilog : Lawful epilog
  lawful_epilog = lawful_valued _ (lawful_between lawful_gap lawful_misc (inl (led_bang.fronts [] (60 ∷ []) refl)))

-- # Before the root element

module _ (limit : ℕ) where
  abbrev One : Rule FaultKind (Unit {0})
  One = either (refused_word Doctyped bang doctype) misc

  led_doctype : Led (60 ∷ 33 ∷ []) (λ c. c ≡ 68) (refused_word {A = Unit {0}} Doctyped bang doctype)
  led_doctype = led_trap Doctyped (60 ∷ 33 ∷ []) 68 (79 ∷ 67 ∷ 84 ∷ 89 ∷ 80 ∷ 69 ∷ []) refl

  led_one : Led (60 ∷ []) IsMisc One
  led_one = led_either (led_weaker (λ c e. grind (arith, nat_tests)) (led_shorter (60 ∷ []) 33 led_doctype)) (led_misc (fault_ranking limit))

  closed_one : Exact (fault_ranking limit) One (λ _. anything) read_prolog_misc
  closed_one = exact_either (starts_with_word (bang ++ doctype)) (exact_trap bang doctype refl) (closed_misc (fault_ranking limit))
      (λ text t.
      let j = starts_is (bang ++ doctype) text t in
      covers_either
      (led_covers (led_valued _ (led_comment (fault_ranking limit))) led_doctype (λ d x i e. absurd (let s = next_is (60 ∷ 33 ∷ []) 68 _ d x j i in omega (arith, e, s))))
      (led_covers (led_instruction (fault_ranking limit)) (led_shorter (60 ∷ []) 33 led_doctype) (λ d x i e. absurd (let s = next_is (60 ∷ []) 33 _ d x j i in omega (arith, e, s)))))
      (λ text f. trap_covers bang doctype (λ u x y j k. inl (inl (inl ((led_comment (fault_ranking limit)).fronts u x j)))) f)

  lawful_one_more : Lawful One
  lawful_one_more = lawful_either (lawful_trap Doctyped bang doctype (omega arith)) (lawful_misc (fault_ranking limit))

  one_begins : One.Meets Begin []
  one_begins = led_one.fronts [] (60 ∷ []) refl

  -- where one of them comes, no element comes
  no_element : (text : List ℕ) → misc_follows text ≡ true → (d : ℕ) (x : List ℕ) → text ≡ 60 ∷ (d ∷ x) → is_name_start d ≡ true → ⊥
  no_element text t d x j h = ⊎_elim
      (λ a. let n = next_true (60 ∷ []) 33 text a in let e = next_is (60 ∷ []) 33 n.0 d x n.1 j in absurd (grind (arith, nat_tests)))
      (λ a. let n = next_true (60 ∷ []) 63 text a in let e = next_is (60 ∷ []) 63 n.0 d x n.1 j in absurd (grind (arith, nat_tests)))
      (either_true (starts_with_word bang text) (starts_with_word pi_start text) t)

  -- where none comes, there is none
  no_misc : (text : List ℕ) → misc_follows text ≡ false → (d : ℕ) (x : List ℕ) → text ≡ 60 ∷ (d ∷ x) → IsMisc d → ⊥
  no_misc text f d x j m =
      let b = both_false (starts_with_word bang text) (starts_with_word pi_start text) f in
      ⊎_elim
      (λ a. let e : d ≡ 33 = grind (arith, nat_tests) in next_false (60 ∷ []) 33 text x b.0 (j ∙ ap (λ (z : ℕ). 60 ∷ z ∷ x) e))
      (λ a. let e : d ≡ 63 = grind (arith, nat_tests) in next_false (60 ∷ []) 63 text x b.1 (j ∙ ap (λ (z : ℕ). 60 ∷ z ∷ x) e))
      (either_true (d == 33) (d == 63) m)

  exact_prolog : {A : Type 0} {r : Rule FaultKind A} {J : A → Rest FaultKind} → Led (60 ∷ []) (λ c. is_name_start c ≡ true) r → Inside (ahead r J) → Exact (fault_ranking limit) prolog (λ _. ahead r J) read_prolog
  exact_prolog {A} {r} {J} led inside = exact_valued (λ _. tt) (exact_between misc_follows (starts_led {P = NoSpace} refl led_one) refl
      (λ text t. led_covers led led_one (no_element text t))
      (λ text f. led_covers led_one led (no_misc text f))
      (exact_gap (fault_ranking limit) (heads_many (starts_sequence _ (starts_led {P = NoSpace} refl led_one)) (heads_starts (starts_led refl led))))
      (exact_closed (inside_past_member (lawful_gap (fault_ranking limit)) lawful_one_more one_begins inside) closed_one))

  lawful_prolog : Lawful prolog
  lawful_prolog = lawful_valued _ (lawful_between (lawful_gap (fault_ranking limit)) lawful_one_more one_begins)

  module _ (n : ℕ) (scope : List (List Decl)) (more : limit + 1 < suc n) where
    abbrev Root : Rule FaultKind Tree
    Root = keep_first (element (suc n) scope 1) epilog

    abbrev Rooted : Rule FaultKind Tree
    Rooted = keep_second prolog Root

    read_rooted : Reader FaultKind Tree
    read_rooted = read_second read_prolog (read_first (read_element limit scope 1) read_epilog)

    led_root : Led (60 ∷ []) (λ c. is_name_start c ≡ true) Root
    led_root = led_before _ (led_element n scope 1)

    lawful_root : Lawful Root
    lawful_root = lawful_before (lawful_element limit (suc n) scope 1) (lawful_epilog (fault_ranking limit))

    lawful_rooted : Lawful Rooted
    lawful_rooted = lawful_behind lawful_prolog lawful_root

    exact_rooted : Exact (fault_ranking limit) Rooted (λ _. ends) read_rooted
    unfolding read_rooted
    exact_rooted = exact_behind (exact_prolog led_root (inside_ahead lawful_root (λ _. inside_ends)))
        (exact_before (exact_closed (λ _. inside_ahead (lawful_epilog (fault_ranking limit)) (λ _. inside_ends)) (exact_element limit limit (suc n) scope 1 refl more)) (λ _. exact_epilog (fault_ranking limit)))

    -- a beginning of an instruction is a beginning of all this
    instruction_begins : (u : List ℕ) → (processing_instruction).Meets Begin u → Rooted.Meets Begin u
    instruction_begins u m = inl (inr (
      tt,
      record {
        front = [];
        back = u;
        joined = refl;
        front_is = ([], (tt, refl), refl);
        back_is = ([], record { front = []; back = u; joined = refl; front_is = refl; back_is = inl (inr (inr m)) });
      },
    ))

    -- and so is `<?xml`, with each of its prefixes
    declared_begins : (u x : List ℕ) → declaration_start ≡ u ++ x → Rooted.Meets Begin u
    declared_begins u x j =
        let fronted : Fronted processing_instruction = fronted_behind (lawful_word pi_start) (fronted_word pi_start) (fronted_behind (lawful_only is_pi_target lawful_name_of) (fronted_only is_pi_target fronted_name_of) fronted_instructed) in
        instruction_begins u (fronted.front u x (subst (processing_instruction.Meets Begin) j (inr (tt, record { front = 60 ∷ 63 ∷ []; back = 120 ∷ 109 ∷ 108 ∷ []; joined = refl; front_is = refl; back_is = inl (inr (120, record { front = 120 ∷ []; back = 109 ∷ 108 ∷ []; joined = refl; front_is = (refl, refl); back_is = (refl, (refl, tt)) })) }))))
      where
        fronted_instructed : Fronted pi_rest
        fronted_instructed = fronted_either (fronted_valued _ (fronted_behind lawful_one fronted_one (fronted_up_to pi_end))) (fronted_word pi_end)

    -- and an instruction of that name stops after it
    stops_at : (c : ℕ) (x : List ℕ) → (c ≡ 32) ⊎ ((c ≡ 9) ⊎ ((c ≡ 10) ⊎ (c ≡ 13))) → read_rooted (60 ∷ 63 ∷ 120 ∷ 109 ∷ 108 ∷ c ∷ x) ≡ Err (Syntax (c ∷ x))
    unfolding read_rooted lib.Utf8.encode
    stops_at c x (inl e) = subst (λ (z : ℕ). read_rooted (60 ∷ 63 ∷ 120 ∷ 109 ∷ 108 ∷ z ∷ x) ≡ Err (Syntax (z ∷ x))) (sym e) refl
    stops_at c x (inr (inl e)) = subst (λ (z : ℕ). read_rooted (60 ∷ 63 ∷ 120 ∷ 109 ∷ 108 ∷ z ∷ x) ≡ Err (Syntax (z ∷ x))) (sym e) refl
    stops_at c x (inr (inr (inl e))) = subst (λ (z : ℕ). read_rooted (60 ∷ 63 ∷ 120 ∷ 109 ∷ 108 ∷ z ∷ x) ≡ Err (Syntax (z ∷ x))) (sym e) refl
    stops_at c x (inr (inr (inr e))) = subst (λ (z : ℕ). read_rooted (60 ∷ 63 ∷ 120 ∷ 109 ∷ 108 ∷ z ∷ x) ≡ Err (Syntax (z ∷ x))) (sym e) refl

    abbrev Declared : Rule FaultKind (Option (List ℕ))
    Declared = with_value_marks MarksUnsupportedEncoding xml_declaration

    led_declared : Led declaration_start (λ c. is_space c ≡ true) Declared
    led_declared = led_judged MarksUnsupportedEncoding (led_declaration (fault_ranking limit))

    -- where a declaration comes, nothing else can follow `<?xml`
    declared_covers : (text : List ℕ) (c : ℕ) (x : List ℕ) → text ≡ declaration_start ++ (c ∷ x) → (c ≡ 32) ⊎ ((c ≡ 9) ⊎ ((c ≡ 10) ⊎ (c ≡ 13))) → Covers (fault_ranking limit) text (ahead Rooted (λ _. ends)) (ahead Declared (λ _. ahead Rooted (λ _. ends)))
    declared_covers text c x j is =
        let P : Result (Tree × List ℕ) (Stop FaultKind) → Type 0 = Outcome (fault_ranking limit) Rooted (λ _. ends) text in
        let h : IsStopped (fault_ranking limit) Rooted (λ _. ends) text (c ∷ x) = subst P (ap read_rooted j ∙ stops_at c x is) (exact_rooted.by text) in
        let at : h.used ≡ declaration_start = append_cancel_right h.used declaration_start (c ∷ x) (sym h.joined ∙ j) in
        stopped_covers h (λ u y k. inl (inl (led_declared.fronts u y (sym at ∙ k))))

    -- the test of a declaration, true and false
    declared_true : (text : List ℕ) → declaration_follows text ≡ true → (c : ℕ) × (x : List ℕ) × (text ≡ declaration_start ++ (c ∷ x)) × ((c ≡ 32) ⊎ ((c ≡ 9) ⊎ ((c ≡ 10) ⊎ (c ≡ 13))))
    declared_true text t =
        let b = both_true (starts_with_word declaration_start text) (first_char_is is_space (drop 5 text)) t in
        let h = space_at (drop 5 text) b.1 in
        (h.0, h.1, starts_is declaration_start text b.0 ∙ ap (λ (z : List ℕ). declaration_start ++ z) h.2, by_case h.0 (four_true (h.0 == 32) (h.0 == 9) (h.0 == 13) (h.0 == 10) h.3))
      where
        space_at : (x : List ℕ) → first_char_is is_space x ≡ true → (c : ℕ) × (y : List ℕ) × (x ≡ c ∷ y) × (is_space c ≡ true)
        space_at [] h = absurd cc
        space_at (c ∷ y) h = (c, y, refl, h)

        by_case : (c : ℕ) → ((c == 32) ≡ true) ⊎ (((c == 9) ≡ true) ⊎ (((c == 13) ≡ true) ⊎ ((c == 10) ≡ true))) → (c ≡ 32) ⊎ ((c ≡ 9) ⊎ ((c ≡ 10) ⊎ (c ≡ 13)))
        by_case c (inl e) = inl (grind (arith, nat_tests))
        by_case c (inr (inl e)) = inr (inl (grind (arith, nat_tests)))
        by_case c (inr (inr (inl e))) = inr (inr (inr (grind (arith, nat_tests))))
        by_case c (inr (inr (inr e))) = inr (inr (inl (grind (arith, nat_tests))))

    not_declared : (text : List ℕ) → declaration_follows text ≡ false → (d : ℕ) (x : List ℕ) → text ≡ declaration_start ++ (d ∷ x) → is_space d ≡ true → ⊥
    not_declared text f d x j h = let t : declaration_follows text ≡ true = ap declaration_follows j ∙ h in absurd cc

    declaration_goes : (text : List ℕ) → declaration_follows text ≡ true → Covers (fault_ranking limit) text (ahead Rooted (λ _. ends)) (ahead Declared (λ _. ahead Rooted (λ _. ends)))
    declaration_goes text t = let k = declared_true text t in declared_covers text k.0 k.1 k.2 k.3

    declaration_stops : (text : List ℕ) → declaration_follows text ≡ false → Covers (fault_ranking limit) text (ahead Declared (λ _. ahead Rooted (λ _. ends))) (ahead Rooted (λ _. ends))
    declaration_stops text f = led_covers_rest led_declared (λ u x y j k. inl (inl (declared_begins u x j))) (not_declared text f)

    encoding_judges : Judges (fault_ranking limit) MarksUnsupportedEncoding xml_declaration encoding_fault
    encoding_judges = record {
      within = λ u a k b s m. (omega (arith, m.4), omega (arith, m.4, ap length s.1.joined, length-append s.1.front s.1.back, ap length s.1.front_is));
      silent = λ u a s none k b m. absurd (foreign_said a k b none m);
      says = λ u a s x m. said_foreign a x m;
      is_fault = λ u a s x m. ap (is_fault limit) (said_foreign a x m).3;
      first = λ u a s x m k b n t. inr (n.4 ∙ sym (said_foreign a x m).4, omega (arith, ap rank (said_foreign a x m).3, ap rank n.3));
    }

    abbrev NoMark : ℕ → Type 0
    NoMark c = (c == 0xFEFF) ≡ false

    space_no_mark : (c : ℕ) → is_space c ≡ true → NoMark c
    space_no_mark c h = grind (arith, nat_tests)

    heads_rooted : Heads NoMark (ahead Rooted (λ _. ends))
    heads_rooted = heads_behind (heads_valued (λ _. tt) (heads_sequence (heads_gap (fault_ranking limit) space_no_mark (heads_many (starts_sequence _ (starts_led refl led_one)) (heads_starts (starts_led refl led_root))))))

    pub exact_document : Exact (fault_ranking limit) (document (suc n) scope) (λ _. ends) (read_text limit scope)
    unfolding read_rooted
    exact_document = exact_behind
        (exact_valued (λ _. tt) (exact_optional_head (λ c. c == 0xFEFF) (starts_word {P = λ c. c ≡ 0xFEFF} refl) (same 0xFEFF) (heads_behind (heads_valued (λ _. tt) (heads_optional (starts_led refl led_declared) heads_rooted))) (apart 0xFEFF) exact_word))
        (exact_behind
        (exact_valued (λ _. tt) (exact_optional declaration_follows (exact_closed (λ _. inside_ahead lawful_rooted (λ _. inside_ends)) (exact_judged encoding_judges (quiet_declaration (fault_ranking limit)) (closed_declaration (fault_ranking limit)))) declaration_goes declaration_stops))
        exact_rooted)

    pub lawful_document : Lawful (document (suc n) scope)
    lawful_document = lawful_behind (lawful_valued _ (lawful_optional (lawful_word byte_order_mark))) (lawful_behind (lawful_valued _ (lawful_optional (lawful_judged MarksUnsupportedEncoding encoding_judges.within (lawful_declaration (fault_ranking limit))))) lawful_rooted)

    -- A text is read as the grammar says: the tree that it spells and no other, or the first fault.
    pub answers_document : (text : List ℕ) → IsParseResult (fault_ranking limit) (document (suc n) scope) text (read_whole_text (read_text limit scope) text)
    answers_document text = answers_whole lawful_document exact_document text
