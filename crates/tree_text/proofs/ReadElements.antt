-- Content and elements are read exactly, within a depth limit.
use Rattle.std.proofs.Common.{◌≡◌, ℕ, zero, suc, ◌+◌, ◌<◌, ◌≤◌, Bool, true, false, List, [], ◌∷◌, ◌++◌, length, Result, Err, ◌⊎◌, inl, inr, ⊎_elim, refl, sym, ap, subst, ◌∙◌, arith}
use Rattle.std.specs.Prelude.{◌&&◌, ◌||◌, ◌==◌, not, nat_eq}
use Rattle.std.proofs.lemmas.Bool.{eqb-true}
use Rattle.std.proofs.lemmas.Bool.Decides.{nat_tests}
use Rattle.xml_names.specs.Characters.{is_name_start}
use Rattle.xml_tree.specs.Tree.{last, Tree}
use Rattle.xml_names.specs.declared.names.Name.{Name}
use Rattle.xml_names.specs.declared.names.Decl.{Decl}
use Rattle.xml_grammar.specs.Rules.{Begin, Rule, word, sequence, map_rule, with_value_marks}
use Rattle.xml_grammar.specs.TextReading.{Reader, Stop, Syntax, ◌>>=◌, first_char_is, starts_with_word, read_word}
use Rattle.xml_grammar.specs.readers.RuleReaders.{read_second, read_never}
use Rattle.xml_grammar.specs.ParseResults.{FaultRanking}
use Rattle.xml_grammar.proofs.Exact.{Rest, ahead, Outcome, Exact, exact_sequence}
use Rattle.xml_grammar.proofs.Leaves.{exact_empty, exact_word}
use Rattle.xml_grammar.proofs.Carry.{Covers, exact_valued, covers_either}
use Rattle.xml_grammar.proofs.Heads.{Not, Heads, heads_starts, Starts, uses, starts_word, starts_sequence, starts_either, starts_valued, starts_covers}
use Rattle.xml_grammar.proofs.Repeats.{heads_many}
use Rattle.xml_grammar.proofs.Greedy.{exact_run_without}
use Rattle.xml_grammar.proofs.Laws.{Lawful, lawful_never, lawful_empty, lawful_word, lawful_run, lawful_run_without, lawful_sequence, lawful_either, lawful_valued, lawful_marked, lawful_judged, lawful_between, lawful_before, lawful_behind, inside_ahead}
use Rattle.xml_grammar.proofs.ClosedRules.{anything, inside_anything, exact_closed}
use Rattle.xml_grammar.proofs.Marks.{exact_judged, Marks, exact_marked, exact_unmarked}
use Rattle.xml_grammar.proofs.Shapes.{exact_before, exact_behind, exact_between, past_member, inside_past_member}
use Rattle.xml_grammar.proofs.LedRules.{Past, Led, led_word, led_sequence, led_valued, led_behind, led_judged, led_marked, starts_led, led_covers, led_covers_rest, led_stopped, next_true, next_false, next_is}
use Rattle.xml_grammar.proofs.Tests.{failed_covers}
use Rattle.xml_tokens.specs.readers.Literals.{less, greater, end_tag_start, ampersand, cdata_end}
use Rattle.xml_tokens.specs.declared.fault_kind.FaultKind.{FaultKind}
use Rattle.xml_tokens.specs.declared.fault_kind.FaultKind.TheVariants.{Depth}
use Rattle.xml_tokens.specs.Values.{normalize_line_ends, qname_text}
use Rattle.tree_text.specs.ContentPieces.{Reference, Section, Comment, Inner, with_pieces}
use Rattle.tree_text.specs.FaultKinds.{is_fault, fault_ranking}
use Rattle.tree_text.specs.Names.{IsTagFault, element_of, scope_inside_tag as inside}
use Rattle.xml_tokens.specs.Tokens.{is_raw_char, char_data}
use Rattle.tree_text.specs.Grammar.{markup, content, end_tag, start_tag, element_rest, IsTagStart, element}
use Rattle.xml_tokens.specs.readers.Tokens.{read_name, read_chars, read_end_tag}
use Rattle.tree_text.specs.readers.Texts.{markup_follows, read_content, read_element_rest, starts_tag, read_element}
use Rattle.tree_text.proofs.ReadParts.{exact_spaces, starts_reference, lawful_reference, closed_tag, lawful_tag, quiet_tag, led_tag}
use Rattle.tree_text.proofs.JudgeTags.{tag_judges}
use Rattle.tree_text.proofs.ReadTexts.{some_section_end, section_raw, lawful_comment, lawful_section, lawful_instruction, led_markup, closed_markup}

pub both_true : (a b : Bool) → a && b ≡ true → (a ≡ true) × (b ≡ true)
both_true true true h = (refl, refl)
both_true true false h = absurd cc
both_true false b h = absurd cc

pub one_false : (a b : Bool) → a && b ≡ false → (a ≡ false) ⊎ (b ≡ false)
one_false true b h = inr h
one_false false b h = inl refl

not_true : (b : Bool) → not b ≡ true → b ≡ false
not_true true h = absurd cc
not_true false h = refl

not_false : (b : Bool) → not b ≡ false → b ≡ true
not_false true h = refl
not_false false h = absurd cc

module _ (fault_ranking : FaultRanking FaultKind) where
  -- # End tags

  led_end_tag : (n : Name) → Led (60 ∷ []) (λ c. c ≡ 47) (end_tag n)
  led_end_tag n = led_behind _ (led_word (60 ∷ []) 47 [] refl)

  closed_end_tag : (n : Name) → Exact fault_ranking (end_tag n) (λ _. anything) (read_end_tag n)
  closed_end_tag n = exact_behind exact_word (exact_behind exact_word (exact_behind (exact_spaces fault_ranking (heads_starts (starts_word refl))) exact_word))

  lawful_end_tag : (n : Name) → Lawful (end_tag n)
  lawful_end_tag n = lawful_behind (lawful_word end_tag_start) (lawful_behind (lawful_word (qname_text n)) (lawful_behind lawful_run (lawful_word greater)))

  -- # Content

  exact_chars : {K : Rest FaultKind} → Heads (Not is_raw_char) K → Exact fault_ranking char_data (λ _. K) read_chars
  exact_chars h = exact_valued normalize_line_ends (exact_run_without cdata_end some_section_end section_raw (λ _. h))

  lawful_chars : Lawful char_data
  lawful_chars = lawful_valued normalize_line_ends (lawful_run_without cdata_end)

  module _ (inner : Rule FaultKind Tree) (lawful : Lawful inner) where
    lawful_markup : Lawful (markup inner)
    lawful_markup = lawful_either (lawful_valued Reference (lawful_reference fault_ranking)) (lawful_either (lawful_valued Section (lawful_section fault_ranking)) (lawful_either (lawful_valued Comment (lawful_comment fault_ranking)) (lawful_either (lawful_valued _ (lawful_instruction fault_ranking)) (lawful_valued Inner lawful))))

    lawful_behind_tag : (n : Name) (b : Bool) → Lawful (element_rest inner n b)
    lawful_behind_tag n true = lawful_empty
    lawful_behind_tag n false = lawful_before (lawful_valued _ (lawful_between lawful_chars lawful_markup (inl (inl (ampersand, refl))))) (lawful_end_tag n)

  module _ (inner : Rule FaultKind Tree) (led : Led (60 ∷ []) (λ c. is_name_start c ≡ true) inner) (lawful : Lawful inner) (p : Reader FaultKind Tree) (exact : Exact fault_ranking inner (λ _. anything) p) where
    starts_markup : {P : ℕ → Type 0} → P 38 → P 60 → Starts P (markup inner)
    starts_markup h i = starts_either (starts_valued Reference (starts_reference fault_ranking h)) (starts_led i (led_markup fault_ranking inner led lawful p exact))

    module _ (n : Name) where
      abbrev After : Rest FaultKind
      After = ahead (end_tag n) (λ _. anything)

      goes_on : (text : List ℕ) → markup_follows text ≡ true → Covers fault_ranking text After (ahead (markup inner) (past_member char_data (markup inner) After))
      goes_on text t =
          let no_end = not_true (starts_with_word end_tag_start text) (both_true (first_char_is (λ c. c == 38 || c == 60) text) (not (starts_with_word end_tag_start text)) t).1 in
          led_covers_rest (led_end_tag n) (λ u x y j k. inl (inl (inr (inr (inr (inr (led.fronts u x j)))))))
          (λ d x j e. next_false (60 ∷ []) 47 text x no_end (j ∙ ap (λ (z : ℕ). 60 ∷ z ∷ x) e))

      stops : (text : List ℕ) → markup_follows text ≡ false → Covers fault_ranking text (ahead (markup inner) (past_member char_data (markup inner) After)) After
      stops text f = ⊎_elim
          (λ h. failed_covers (λ c. c == 38 || c == 60) (starts_markup {P = λ c. c == 38 || c == 60 ≡ true} refl refl) (λ c m. m) h)
          (λ e. at_end (next_true (60 ∷ []) 47 text (not_false (starts_with_word end_tag_start text) e)))
          (one_false (first_char_is (λ c. c == 38 || c == 60) text) (not (starts_with_word end_tag_start text)) f)
        where
          at_end : (x : List ℕ) × (text ≡ 60 ∷ (47 ∷ x)) → Covers fault_ranking text (ahead (markup inner) (past_member char_data (markup inner) After)) After
          at_end k = covers_either
              (starts_covers (starts_valued Reference (starts_reference fault_ranking {P = λ c. c ≡ 38} refl)) (λ c x j e. absurd (let same : 60 ≡ c = let i = k.1 in cc in omega (arith, e, same))))
              (led_covers (led_markup fault_ranking inner led lawful p exact) (led_end_tag n) (λ d x j g. absurd (let e : 47 ≡ d = next_is (60 ∷ []) 47 k.0 d x k.1 j in grind (arith, nat_tests))))

      exact_content : Exact fault_ranking (content inner) (λ _. After) (read_content p)
      exact_content =
          let ends : Heads (Not is_raw_char) After = heads_starts (starts_led refl (led_end_tag n)) in
          exact_valued (λ x. with_pieces (last x.0) x.1) (exact_between markup_follows (starts_markup {P = Not is_raw_char} refl refl) refl goes_on stops
          (exact_chars (heads_many (starts_sequence _ (starts_markup refl refl)) ends))
          (exact_closed (inside_past_member lawful_chars (lawful_markup inner lawful) (inl (inl (ampersand, refl))) (inside_ahead (lawful_end_tag n) (λ _. inside_anything))) (closed_markup fault_ranking inner led lawful p exact)))

      exact_behind_tag : (b : Bool) → Exact fault_ranking (element_rest inner n b) (λ _. anything) (read_element_rest p n b)
      exact_behind_tag true = exact_empty
      exact_behind_tag false = exact_before exact_content (λ _. closed_end_tag n)

-- # Elements

-- `<`, and the first character of a name
past_tag : (v : List ℕ) → IsTagStart v → Past (60 ∷ []) (λ c. is_name_start c ≡ true) v
past_tag v m = record { next = m.0; rest = []; joined = m.1; is = m.2 }

-- what follows the mark of an element
abbrev tagged : ℕ → List (List Decl) → ℕ → Rule FaultKind Tree
tagged n scope depth = map_rule element_of (sequence (with_value_marks (IsTagFault scope) start_tag) (λ t. element_rest (element n (inside scope t) (depth + 1)) t.name t.is_empty))

led_tagged : (n : ℕ) (scope : List (List Decl)) (depth : ℕ) → Led (60 ∷ []) (λ c. is_name_start c ≡ true) (tagged n scope depth)
led_tagged n scope depth = led_valued element_of (led_sequence _ (led_judged (IsTagFault scope) (led_tag (fault_ranking 0))))

pub led_element : (n : ℕ) (scope : List (List Decl)) (depth : ℕ) → Led (60 ∷ []) (λ c. is_name_start c ≡ true) (element (suc n) scope depth)
led_element n scope depth = led_marked (Depth depth) IsTagStart past_tag (led_tagged n scope depth)

tag_begins : (n : ℕ) (scope : List (List Decl)) (depth : ℕ) (v : List ℕ) → IsTagStart v → (0 < length v) × (tagged n scope depth).Meets Begin v
tag_begins n scope depth v m = (omega (arith, ap length m.1), subst ((tagged n scope depth).Meets Begin) (sym m.1) (inl (inr (tt, record { front = 60 ∷ []; back = m.0 ∷ []; joined = refl; front_is = refl; back_is = inl (inl (inl (inr (m.0, m.2, refl)))) }))))

-- where no tag starts, reading a tag stops at its `<`, or directly after it
abbrev blocked : Reader FaultKind Tree
blocked = read_second (read_word less) (read_second read_name read_never)

abbrev stopped_text : List ℕ → Result (Tree × List ℕ) (Stop FaultKind)
stopped_text text = read_word less text >>= λ x. Err (Syntax x.1)

stops_by_name : (b : Bool) (d : ℕ) (y : List ℕ) → is_name_start d ≡ b → b ≡ false → stopped_text (60 ∷ d ∷ y) ≡ blocked (60 ∷ d ∷ y)
stops_by_name true d y e f = absurd cc
stops_by_name false d y e f = rw e refl

stops_by_rest : (x : List ℕ) → first_char_is is_name_start x ≡ false → stopped_text (60 ∷ x) ≡ blocked (60 ∷ x)
stops_by_rest [] f = refl
stops_by_rest (d ∷ y) f = stops_by_name (is_name_start d) d y refl f

stops_by_head : (b : Bool) (c : ℕ) (x : List ℕ) → nat_eq 60 c ≡ b → (c == 60) && first_char_is is_name_start x ≡ false → stopped_text (c ∷ x) ≡ blocked (c ∷ x)
stops_by_head true c x e f =
    let s : 60 ≡ c = eqb-true 60 c e in
    let g : first_char_is is_name_start x ≡ false = ap (λ (z : ℕ). (z == 60) && first_char_is is_name_start x) s ∙ f in
    subst (λ (z : ℕ). stopped_text (z ∷ x) ≡ blocked (z ∷ x)) s (stops_by_rest x g)
stops_by_head false c x e f = rw e refl

blocked_stops : (text : List ℕ) → starts_tag text ≡ false → stopped_text text ≡ blocked text
blocked_stops [] f = refl
blocked_stops (c ∷ x) f = stops_by_head (nat_eq 60 c) c x refl f

starts_tag_at : (text : List ℕ) (d : ℕ) (x : List ℕ) → text ≡ 60 ∷ (d ∷ x) → is_name_start d ≡ true → starts_tag text ≡ true
starts_tag_at text d x j h = ap starts_tag j ∙ h

tag_at : (text : List ℕ) → starts_tag text ≡ true → (seen : List ℕ) × (unseen : List ℕ) × (text ≡ seen ++ unseen) × IsTagStart seen
tag_at [] t = absurd cc
tag_at (c ∷ []) t = absurd (let b = (both_true (c == 60) false t).1 in cc)
tag_at (c ∷ d ∷ x) t = let b = both_true (c == 60) (is_name_start d) t in (c ∷ d ∷ [], x, refl, (d, (let e : c ≡ 60 = grind (arith, nat_tests) in ap (λ (z : ℕ). z ∷ d ∷ []) e), b.1))

module _ (limit : ℕ) where
  lawful_tagged : (n : ℕ) (scope : List (List Decl)) (depth : ℕ) → ((inside : List (List Decl)) (d : ℕ) → Lawful (element n inside d)) → Lawful (tagged n scope depth)
  lawful_tagged n scope depth h = lawful_valued element_of (lawful_sequence (lawful_judged (IsTagFault scope) (tag_judges limit scope).within (lawful_tag (fault_ranking limit))) (λ t. lawful_behind_tag (fault_ranking limit) (element n (inside scope t) (depth + 1)) (h (inside scope t) (depth + 1)) t.name t.is_empty))

  pub lawful_element : (n : ℕ) (scope : List (List Decl)) (depth : ℕ) → Lawful (element n scope depth)
  lawful_element zero scope depth = lawful_never
  lawful_element (suc n) scope depth = lawful_marked (Depth depth) IsTagStart (tag_begins n scope depth) (lawful_tagged n scope depth (lawful_element n))

  -- an element isn't empty
  tagged_uses : (n : ℕ) (scope : List (List Decl)) (depth : ℕ) (u : List ℕ) (a : Tree) → (tagged n scope depth).Spells u a → 0 < length u
  tagged_uses n scope depth u a m = uses (starts_led {P = λ c. c ≡ 60} refl (led_tagged n scope depth)) u a m

  rank_least : (depth : ℕ) (k : FaultKind) → (fault_ranking limit).is_fault k ≡ true → (fault_ranking limit).rank (Depth depth) ≤ (fault_ranking limit).rank k
  rank_least depth k h = omega arith

  -- at the limit only the start of a tag is read
  marks_at : (n : ℕ) (scope : List (List Decl)) (depth : ℕ) → is_fault limit (Depth depth) ≡ true → Marks (fault_ranking limit) (Depth depth) IsTagStart (tagged n scope depth) starts_tag
  marks_at n scope depth deep = record {
    is_fault = λ text t. deep;
    stands = tag_at;
    harmless = λ text f v w j m. absurd (let t = starts_tag_at text m.0 w (j ∙ ap (λ (z : List ℕ). z ++ w) m.1) m.2 in cc);
    least = rank_least depth;
    some = tagged_uses n scope depth;
  }

  blocked_outcome : (n : ℕ) (scope : List (List Decl)) (depth : ℕ) (text : List ℕ) → starts_tag text ≡ false → Outcome (fault_ranking limit) (tagged n scope depth) (λ _. anything) text (blocked text)
  blocked_outcome n scope depth text f =
      let first : Exact (fault_ranking limit) (word less) (λ _. anything) (read_word less) = exact_word in
      let P : Result (Tree × List ℕ) (Stop FaultKind) → Type 0 = Outcome (fault_ranking limit) (tagged n scope depth) (λ _. anything) text in
      subst P (blocked_stops text f) (led_stopped (fault_ranking limit) (60 ∷ []) (λ c. is_name_start c ≡ true) (tagged n scope depth) (λ _. anything) (led_tagged n scope depth) text
      (λ d x j h. let t = starts_tag_at text d x j h in absurd cc) (read_word less text) (first.by text))

  pub exact_element : (m n : ℕ) (scope : List (List Decl)) (depth : ℕ) → m + depth ≡ limit + 1 → m + 1 < n → Exact (fault_ranking limit) (element n scope depth) (λ _. anything) (read_element m scope depth)
  exact_element m zero scope depth at lt = absurd (omega arith)
  exact_element m (suc zero) scope depth at lt = absurd (omega arith)
  exact_element zero (suc (suc n)) scope depth at lt =
      let deep : is_fault limit (Depth depth) ≡ true = grind (arith, nat_tests) in
      exact_marked blocked (marks_at (suc n) scope depth deep) (lawful_tagged (suc n) scope depth (lawful_element (suc n))) (blocked_outcome (suc n) scope depth)
  exact_element (suc m) (suc (suc n)) scope depth at lt =
      let shallow : is_fault limit (Depth depth) ≡ false = grind (arith, nat_tests) in
      exact_unmarked shallow (exact_valued element_of (exact_sequence
      (exact_closed (λ t. inside_ahead (lawful_behind_tag (fault_ranking limit) (element (suc n) (inside scope t) (depth + 1)) (lawful_element (suc n) (inside scope t) (depth + 1)) t.name t.is_empty) (λ _. inside_anything)) (exact_judged (tag_judges limit scope) (quiet_tag (fault_ranking limit)) (closed_tag (fault_ranking limit))))
      (λ t. exact_behind_tag (fault_ranking limit) (element (suc n) (inside scope t) (depth + 1)) (led_element n (inside scope t) (depth + 1)) (lawful_element (suc n) (inside scope t) (depth + 1)) (read_element m (inside scope t) (depth + 1)) (exact_element m (suc n) (inside scope t) (depth + 1) (omega arith) (omega arith)) t.name t.is_empty)))
