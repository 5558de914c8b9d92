-- The shapes that grammars often have are read exactly.
use Rattle.std.proofs.Common.{◌≡◌, ℕ, Bool, true, false, List, [], ◌∷◌, ◌++◌, ◌⊎◌, inl, inr, ⊎_elim, refl, sym, ap, subst, ◌∙◌, append_assoc}
use Rattle.std.specs.Prelude.{Some, None}
use Rattle.xml_grammar.specs.Rules.{Event, Begin, Mark, Rule, empty_text, word, char_run, sequence, either, many, map_rule, optional, between_gaps, one_or_more, keep_first, keep_second, quoted, name_rule as name_of}
use Rattle.xml_grammar.specs.TextReading.{Reader, read_run, read_one_or_more}
use Rattle.xml_grammar.specs.readers.RuleReaders.{read_optional, read_between_gaps, read_name_rule, read_first, read_second, read_quoted}
use Rattle.xml_grammar.specs.ParseResults.{FaultRanking}
use Rattle.xml_grammar.proofs.Exact.{Rest, ahead, Exact, exact_sequence, exact_sequence_if}
use Rattle.xml_grammar.proofs.Carry.{Idle, Covers, exact_valued, exact_either, covers_sequence}
use Rattle.xml_grammar.proofs.Leaves.{exact_empty, exact_one, exact_word}
use Rattle.xml_grammar.proofs.Heads.{Not, Heads, Starts, uses, starts_one, starts_sequence, starts_valued, heads_sequence, heads_valued}
use Rattle.xml_grammar.proofs.Greedy.{exact_run}
use Rattle.xml_grammar.proofs.Laws.{Lawful, lawful_sequence, lawful_many, Inside, inside_ahead}
use Rattle.xml_grammar.proofs.Repeats.{more, Repeats, exact_many, heads_many}

-- # Rules that cover a sequence, another value, nothing

module _ {Kind : Type 0} where
  pub into_sequence : {A B : Type 0} (r : Rule Kind A) (s : A → Rule Kind B) (K : A × B → Rest Kind) (e : Event Kind) (v : List ℕ) → (ahead r (λ a. ahead (s a) (λ b. K (a, b)))).Meets e v → (ahead (sequence r s) K).Meets e v
  into_sequence r s K e v (inl m) = inl (inl m)
  into_sequence r s K e v (inr m) = ⊎_elim
      (λ l. inl (inr (m.0, record { front = m.1.front; back = m.1.back; joined = m.1.joined; front_is = m.1.front_is; back_is = l })))
      (λ l. inr (
        (m.0, l.0),
        record {
          front = m.1.front ++ l.1.front;
          back = l.1.back;
          joined = m.1.joined ∙ ap (λ (z : List ℕ). m.1.front ++ z) l.1.joined ∙ sym (append_assoc m.1.front l.1.front l.1.back);
          front_is = record { front = m.1.front; back = l.1.front; joined = refl; front_is = m.1.front_is; back_is = l.1.front_is };
          back_is = l.1.back_is;
        },
      ))
      m.1.back_is

  pub into_valued : {A B : Type 0} (f : A → B) (r : Rule Kind A) (K : B → Rest Kind) (e : Event Kind) (v : List ℕ) → (ahead r (λ a. K (f a))).Meets e v → (ahead (map_rule f r) K).Meets e v
  into_valued f r K e v (inl m) = inl m
  into_valued f r K e v (inr m) = inr (f m.0, record { front = m.1.front; back = m.1.back; joined = m.1.joined; front_is = (m.0, m.1.front_is, refl); back_is = m.1.back_is })

  pub into_first : {A : Type 0} (r s : Rule Kind A) (K : A → Rest Kind) (e : Event Kind) (v : List ℕ) → (ahead r K).Meets e v → (ahead (either r s) K).Meets e v
  into_first r s K e v (inl m) = inl (inl m)
  into_first r s K e v (inr m) = inr (m.0, record { front = m.1.front; back = m.1.back; joined = m.1.joined; front_is = inl m.1.front_is; back_is = m.1.back_is })

  pub into_empty : {A : Type 0} (value : A) (K : A → Rest Kind) (e : Event Kind) (v : List ℕ) → (K value).Meets e v → (ahead (empty_text value) K).Meets e v
  into_empty value K e v m = inr (value, record { front = []; back = v; joined = refl; front_is = (refl, refl); back_is = m })

  -- what follows a member: a gap, more members, and what follows them
  abbrev pub past_member : {A B : Type 0} → Rule Kind A → Rule Kind B → Rest Kind → B → Rest Kind
  past_member gap member K _ = ahead gap (λ _. ahead (many (sequence member (λ _. gap))) (λ _. K))

module _ {Kind : Type 0} {faults : FaultRanking Kind} where
  pub covers_by : {text : List ℕ} {X Y Z : Rest Kind} → ((e : Event Kind) (v : List ℕ) → Y.Meets e v → Z.Meets e v) → Covers faults text X Y → Covers faults text X Z
  covers_by f c = record { events = λ e v w j m. ⊎_elim (λ l. inl (f e v l)) (λ i. inr i) (c.events e v w j m); whole = c.whole }

  pub covered_sequence : {A B : Type 0} {text : List ℕ} {X : Rest Kind} {r : Rule Kind A} (s : A → Rule Kind B) (K : A × B → Rest Kind) → Covers faults text X (ahead r (λ a. ahead (s a) (λ b. K (a, b)))) → Covers faults text X (ahead (sequence r s) K)
  covered_sequence {A} {B} {text} {X} {r} s K c = covers_by (into_sequence r s K) c

  pub covered_valued : {A B : Type 0} {text : List ℕ} {X : Rest Kind} {r : Rule Kind A} (f : A → B) (K : B → Rest Kind) → Covers faults text X (ahead r (λ a. K (f a))) → Covers faults text X (ahead (map_rule f r) K)
  covered_valued {A} {B} {text} {X} {r} f K c = covers_by (into_valued f r K) c

  -- what one member of a choice covers, the choice covers
  pub covered_first : {A : Type 0} {text : List ℕ} {X : Rest Kind} {r : Rule Kind A} (s : Rule Kind A) (K : A → Rest Kind) → Covers faults text X (ahead r K) → Covers faults text X (ahead (either r s) K)
  covered_first {A} {text} {X} {r} s K c = covers_by (into_first r s K) c

  pub covers_empty : {A : Type 0} {text : List ℕ} {X : Rest Kind} {value : A} {K : A → Rest Kind} → Covers faults text (K value) X → Covers faults text (ahead (empty_text value) K) X
  covers_empty {A} {text} {X} {value} {K} c = record { events = empty_events; whole = λ m. c.whole (subst (K value).Whole (sym (m.1.joined ∙ ap (λ (z : List ℕ). z ++ m.1.back) m.1.front_is.0)) (subst (λ (a : A). (K a).Whole m.1.back) m.1.front_is.1 m.1.back_is)) }
    where
      empty_events : (e : Event Kind) (v w : List ℕ) → text ≡ v ++ w → (ahead (empty_text value) K).Meets e v → X.Meets e v ⊎ Idle faults e v
      empty_events Begin v w j (inl m) = inr m
      empty_events (Mark k b) v w j (inl m) = elim m [ ]
      empty_events e v w j (inr m) = c.events e v w j (subst (λ (z : List ℕ). (K value).Meets e z) (sym (m.1.joined ∙ ap (λ (z : List ℕ). z ++ m.1.back) m.1.front_is.0)) (subst (λ (a : A). (K a).Meets e m.1.back) m.1.front_is.1 m.1.back_is))

  -- # Shapes

  pub exact_before : {A B : Type 0} {r : Rule Kind A} {s : Rule Kind B} {K : A → Rest Kind} {p : Reader Kind A} {q : Reader Kind B} → Exact faults r (λ a. ahead s (λ _. K a)) p → ((a : A) → Exact faults s (λ _. K a) q) → Exact faults (keep_first r s) K (read_first p q)
  exact_before {A} {B} {r} {s} {K} h i = exact_valued (λ x. x.0) (exact_sequence {s = λ _. s} {K = λ x. K x.0} h i)

  pub exact_behind : {A B : Type 0} {r : Rule Kind A} {s : Rule Kind B} {K : B → Rest Kind} {p : Reader Kind A} {q : Reader Kind B} → Exact faults r (λ _. ahead s K) p → Exact faults s K q → Exact faults (keep_second r s) K (read_second p q)
  exact_behind {A} {B} {r} {s} {K} h i = exact_valued (λ x. x.1) (exact_sequence {s = λ _. s} {K = λ x. K x.1} h (λ _. i))

  pub exact_some_of : {p : ℕ → Bool} {K : List ℕ → Rest Kind} → ((cs : List ℕ) → Heads (Not p) (K cs)) → Exact faults (one_or_more p) K (read_one_or_more p)
  exact_some_of {p} {K} h = exact_valued (λ x. x.0 ∷ x.1) (exact_sequence {K = λ x. K (x.0 ∷ x.1)} exact_one (λ c. exact_run (λ cs. h (c ∷ cs))))

  pub exact_name_of : {first others : ℕ → Bool} {K : List ℕ → Rest Kind} → ((cs : List ℕ) → Heads (Not others) (K cs)) → Exact faults (name_of first others) K (read_name_rule first others)
  exact_name_of {first} {others} {K} h = exact_valued (λ x. x.0 ∷ x.1) (exact_sequence {K = λ x. K (x.0 ∷ x.1)} exact_one (λ c. exact_run (λ cs. h (c ∷ cs))))

  pub exact_quoted : {A : Type 0} {is_quote : ℕ → Bool} {inside : ℕ → Rule Kind A} {K : A → Rest Kind} {p : ℕ → Reader Kind A} → ((q : ℕ) → is_quote q ≡ true → Exact faults (inside q) (λ a. ahead (word (q ∷ [])) (λ _. K a)) (p q)) → Exact faults (quoted is_quote inside) K (read_quoted is_quote p)
  exact_quoted {A} {is_quote} {inside} {K} h = exact_valued (λ x. x.1) (exact_sequence_if {s = λ q. keep_first (inside q) (word (q ∷ []))} {K = λ x. K x.1} exact_one (λ q u s. exact_before (h q s.0) (λ _. exact_word)))

  -- An optional rule: the test shows whether it is there.
  pub exact_optional : {A : Type 0} {r : Rule Kind A} {K : Rest Kind} {p : Reader Kind A} (test : List ℕ → Bool) → Exact faults r (λ _. K) p → ((text : List ℕ) → test text ≡ true → Covers faults text K (ahead r (λ _. K))) → ((text : List ℕ) → test text ≡ false → Covers faults text (ahead r (λ _. K)) K) → Exact faults (optional r) (λ _. K) (read_optional test p)
  exact_optional {A} {r} {K} test h c d = exact_either test (exact_valued Some h) exact_empty
      (λ text t. covers_empty {value = None} {K = λ _. K} (covered_valued Some (λ _. K) (c text t)))
      (λ text t. covers_by (into_empty None (λ _. K)) (valued_covers text (d text t)))
    where
      valued_covers : (text : List ℕ) → Covers faults text (ahead r (λ _. K)) K → Covers faults text (ahead (map_rule Some r) (λ _. K)) K
      valued_covers text x = record {
        events = λ e v w j m. ⊎_elim
            (λ l. x.events e v w j (inl l))
            (λ l. let s = l.1.front_is in x.events e v w j (inr (s.0, record { front = l.1.front; back = l.1.back; joined = l.1.joined; front_is = s.1; back_is = l.1.back_is })))
            m;
        whole = λ l. let s = l.1.front_is in x.whole (s.0, record { front = l.1.front; back = l.1.back; joined = l.1.joined; front_is = s.1; back_is = l.1.back_is });
      }

  -- # Members between gaps

  repeats_member : {A B : Type 0} {gap : Rule Kind A} {member : Rule Kind B} {K : Rest Kind} {P : ℕ → Type 0} {test : List ℕ → Bool} → Starts P member → test [] ≡ false → ((text : List ℕ) → test text ≡ true → Covers faults text K (ahead member (past_member gap member K))) → ((text : List ℕ) → test text ≡ false → Covers faults text (ahead member (past_member gap member K)) K) → Repeats faults (sequence member (λ _. gap)) K test
  repeats_member {A} {B} {gap} {member} {K} {P} {test} starts at_end c d = record {
    at_end = at_end;
    uses = λ u a s. uses (starts_sequence (λ _. gap) starts) u a s;
    goes_on = λ text t. covered_sequence (λ _. gap) (more (sequence member (λ _. gap)) K) (c text t);
    stops = λ text t. covers_sequence (d text t);
  }

  -- Gaps of any rule.
  pub exact_between : {A B : Type 0} {gap : Rule Kind A} {member : Rule Kind B} {K : Rest Kind} {P : ℕ → Type 0} {g : Reader Kind A} {q : Reader Kind B} (test : List ℕ → Bool) → Starts P member → test [] ≡ false → ((text : List ℕ) → test text ≡ true → Covers faults text K (ahead member (past_member gap member K))) → ((text : List ℕ) → test text ≡ false → Covers faults text (ahead member (past_member gap member K)) K) → Exact faults gap (λ _. ahead (many (sequence member (λ _. gap))) (λ _. K)) g → Exact faults member (past_member gap member K) q → Exact faults (between_gaps gap member) (λ _. K) (read_between_gaps test g q)
  exact_between test starts at_end c d gaps h = exact_sequence gaps (λ _. exact_many (repeats_member starts at_end c d) (exact_sequence h (λ _. gaps)))

  -- The gaps are runs of a class that neither a member nor anything that follows begins with.
  pub exact_between_run : {B : Type 0} {p : ℕ → Bool} {member : Rule Kind B} {K : Rest Kind} {q : Reader Kind B} (test : List ℕ → Bool) → Starts (Not p) member → Heads (Not p) K → test [] ≡ false → ((text : List ℕ) → test text ≡ true → Covers faults text K (ahead member (past_member (char_run p) member K))) → ((text : List ℕ) → test text ≡ false → Covers faults text (ahead member (past_member (char_run p) member K)) K) → Exact faults member (past_member (char_run p) member K) q → Exact faults (between_gaps (char_run p) member) (λ _. K) (read_between_gaps test (read_run p) q)
  exact_between_run {B} {p} {member} {K} {q} test starts heads at_end c d h =
      let members : Heads (Not p) (ahead (many (sequence member (λ _. char_run p))) (λ _. K)) = heads_many (starts_sequence (λ _. char_run p) starts) heads in
      exact_sequence (exact_run (λ _. members)) (λ _. exact_many (repeats_member starts at_end c d) (exact_sequence h (λ _. exact_run (λ _. members))))

module _ {Kind : Type 0} where
  pub starts_some_of : {P : ℕ → Type 0} {p : ℕ → Bool} → ((c : ℕ) → p c ≡ true → P c) → Starts {Kind = Kind} P (one_or_more p)
  starts_some_of {P} {p} h = starts_valued (λ x. x.0 ∷ x.1) (starts_sequence (λ _. char_run p) (starts_one h))

  pub starts_name_of : {P : ℕ → Type 0} {first : ℕ → Bool} (others : ℕ → Bool) → ((c : ℕ) → first c ≡ true → P c) → Starts {Kind = Kind} P (name_of first others)
  starts_name_of {P} {first} others h = starts_valued (λ x. x.0 ∷ x.1) (starts_sequence (λ _. char_run others) (starts_one h))

  pub starts_before : {A B : Type 0} {P : ℕ → Type 0} {r : Rule Kind A} (s : Rule Kind B) → Starts P r → Starts P (keep_first r s)
  starts_before s h = starts_valued (λ x. x.0) (starts_sequence (λ _. s) h)

  pub starts_behind : {A B : Type 0} {P : ℕ → Type 0} {r : Rule Kind A} (s : Rule Kind B) → Starts P r → Starts P (keep_second r s)
  starts_behind s h = starts_valued (λ x. x.1) (starts_sequence (λ _. s) h)

  pub starts_quoted : {A : Type 0} {P : ℕ → Type 0} {is_quote : ℕ → Bool} (inside : ℕ → Rule Kind A) → ((c : ℕ) → is_quote c ≡ true → P c) → Starts P (quoted is_quote inside)
  starts_quoted inside h = starts_valued (λ x. x.1) (starts_sequence (λ q. keep_first (inside q) (word (q ∷ []))) (starts_one h))

  pub heads_before : {A B : Type 0} {P : ℕ → Type 0} {r : Rule Kind A} {s : Rule Kind B} {K : A → Rest Kind} → Heads P (ahead r (λ a. ahead s (λ _. K a))) → Heads P (ahead (keep_first r s) K)
  heads_before {A} {B} {P} {r} {s} {K} h = heads_valued (λ x. x.0) (heads_sequence {s = λ _. s} {K = λ x. K x.0} h)

  pub heads_behind : {A B : Type 0} {P : ℕ → Type 0} {r : Rule Kind A} {s : Rule Kind B} {K : B → Rest Kind} → Heads P (ahead r (λ _. ahead s K)) → Heads P (ahead (keep_second r s) K)
  heads_behind {A} {B} {P} {r} {s} {K} h = heads_valued (λ x. x.1) (heads_sequence {s = λ _. s} {K = λ x. K x.1} h)

  pub inside_past_member : {A B : Type 0} {gap : Rule Kind A} {member : Rule Kind B} {K : Rest Kind} → Lawful gap → Lawful member → member.Meets Begin [] → Inside K → (b : B) → Inside (past_member gap member K b)
  inside_past_member {A} {B} {gap} {member} {K} h i e k b = inside_ahead h (λ _. inside_ahead (lawful_many (lawful_sequence i (λ _. h)) (inl e)) (λ _. k))
