-- Where one rule has, in one text, the texts and events of another, what is known of reading the
-- one carries over to the other: other values, choices.
use Rattle.std.proofs.Common.{◌≡◌, ℕ, ◌-◌, Bool, true, false, cond, List, [], ◌++◌, length, Result, Ok, Err, ◌⊎◌, inl, inr, ⊎_elim, refl, ap, subst, ◌∙◌, arith}
use Rattle.std.proofs.lemmas.List.{length-append}
use Rattle.xml_grammar.specs.Rules.{Event, Begin, Mark, Rule, sequence, either, map_rule, with_length}
use Rattle.xml_grammar.specs.TextReading.{Stop, Syntax, Faulty, Reader, ◌>>=◌, read_mapped}
use Rattle.xml_grammar.specs.readers.RuleReaders.{read_either, read_with_length}
use Rattle.xml_grammar.specs.ParseResults.{FaultRanking}
use Rattle.xml_grammar.proofs.Exact.{Rest, ahead, sequence_meets, sequence_whole, Passed, IsRead, IsStopped, IsAtFault, Outcome, Exact, behind_passed}

module _ {Kind : Type 0} (faults : FaultRanking Kind) where
  -- The event doesn't matter: the beginning is empty, the mark no fault.
  abbrev pub Idle : Event Kind → List ℕ → Type 0
  Idle Begin v = v ≡ []
  Idle (Mark k b) v = faults.is_fault k ≡ false

  pub idle_passed : (e : Event Kind) (v u : List ℕ) → Idle e v → Passed faults e v u
  idle_passed Begin v u h = omega (arith, ap length h)
  idle_passed (Mark k b) v u h = h

  -- In this text each event of one continuation is an event of the other, or doesn't matter, and
  -- the text doesn't end that way.
  pub record Covers (text : List ℕ) (J K : Rest Kind) : Type 0 where
    pub events : (e : Event Kind) (v w : List ℕ) → text ≡ v ++ w → J.Meets e v → K.Meets e v ⊎ Idle e v
    pub whole : J.Whole text → ⊥

  -- In this text the second rule, with what follows it, has the texts and events of the first.
  pub record Carries {A B : Type 0} (text : List ℕ) (r : Rule Kind A) (K : A → Rest Kind) (s : Rule Kind B) (L : B → Rest Kind) (value : List ℕ → A → B) : Type 0 where
    pub spells : (u : List ℕ) (a : A) → r.Spells u a → s.Spells u (value u a)
    pub meets : (e : Event Kind) (u : List ℕ) → r.Meets e u → s.Meets e u
    pub later : (u : List ℕ) (a : A) (e : Event Kind) (x : List ℕ) → (K a).Meets e x → (L (value u a)).Meets e x
    pub events : (e : Event Kind) (v w : List ℕ) → text ≡ v ++ w → (ahead s L).Meets e v → (ahead r K).Meets e v ⊎ Idle e v
    pub whole : (v w : List ℕ) (b : B) → text ≡ v ++ w → s.Spells v b → (L b).Whole w → (a : A) × r.Spells v a × (K a).Whole w × (b ≡ value v a)

  module _ {A B : Type 0} {text : List ℕ} {r : Rule Kind A} {K : A → Rest Kind} {s : Rule Kind B} {L : B → Rest Kind} {value : List ℕ → A → B} (c : Carries text r K s L value) where
    pub carried_read : (a : A) (left : List ℕ) → (h : IsRead faults r K text a left) → IsRead faults s L text (value h.used a) left
    carried_read a left h = record {
      used = h.used;
      joined = h.joined;
      spelled = c.spells h.used a h.spelled;
      settled = λ e v w j m. ⊎_elim
          (λ k. ⊎_elim (λ p. inl p) (λ l. inr (l.0, l.1, c.later h.used a e l.0 l.2)) (h.settled e v w j k))
          (λ i. inl (idle_passed e v h.used i))
          (c.events e v w j m);
      unique = λ v w b j sp k.
          let d = c.whole v w b j sp k in
          let o = h.unique v w d.0 j d.1 d.2 in
          (o.0, d.3 ∙ ap (λ (z : List ℕ). value z d.0) o.0 ∙ ap (value h.used) o.1);
    }

    pub carried_stopped : (left : List ℕ) → IsStopped faults r K text left → IsStopped faults s L text left
    carried_stopped left h = record {
      used = h.used;
      joined = h.joined;
      begun = c.meets Begin h.used h.begun;
      settled = λ e v w j m. ⊎_elim (λ k. h.settled e v w j k) (λ i. idle_passed e v h.used i) (c.events e v w j m);
      none = λ v w b j sp k. let d = c.whole v w b j sp k in h.none v w d.0 j d.1 d.2;
    }

    pub carried_at_fault : (kind : Kind) (left : List ℕ) → IsAtFault faults r K text kind left → IsAtFault faults s L text kind left
    carried_at_fault kind left h = record {
      used = h.used;
      joined = h.joined;
      seen = h.seen;
      unseen = h.unseen;
      left_is = h.left_is;
      met = c.meets (Mark kind (length h.seen)) (h.used ++ h.seen) h.met;
      is_fault = h.is_fault;
      settled = λ e v w j m. ⊎_elim (λ k. h.settled e v w j k) (λ i. behind_passed faults kind e v h.used h.used (idle_passed e v h.used i)) (c.events e v w j m);
      beyond = λ v w b j sp k. let d = c.whole v w b j sp k in h.beyond v w d.0 j d.1 d.2;
    }

  -- the same value
  abbrev pub same : {A : Type 0} → List ℕ → A → A
  same u a = a

  pub carried_same : {A : Type 0} {text : List ℕ} {r s : Rule Kind A} {K L : A → Rest Kind} → Carries text r K s L same → (out : Result (A × List ℕ) (Stop Kind)) → Outcome faults r K text out → Outcome faults s L text out
  carried_same c (Ok x) h = carried_read c x.0 x.1 h
  carried_same c (Err (Syntax left)) h = carried_stopped c left h
  carried_same c (Err (Faulty kind left)) h = carried_at_fault c kind left h

-- # Other values

module _ {Kind : Type 0} where
  module _ {A B : Type 0} (f : A → B) (r : Rule Kind A) (K : B → Rest Kind) where
    pub valued_meets : (e : Event Kind) (v : List ℕ) → (ahead (map_rule f r) K).Meets e v → (ahead r (λ a. K (f a))).Meets e v
    valued_meets e v (inl h) = inl h
    valued_meets e v (inr h) =
        let sp = h.1.front_is in
        inr (sp.0, record { front = h.1.front; back = h.1.back; joined = h.1.joined; front_is = sp.1; back_is = subst (λ (z : B). (K z).Meets e h.1.back) sp.2 h.1.back_is })

    pub valued_whole : (v : List ℕ) → (ahead (map_rule f r) K).Whole v → (ahead r (λ a. K (f a))).Whole v
    valued_whole v h =
        let sp = h.1.front_is in
        (sp.0, record { front = h.1.front; back = h.1.back; joined = h.1.joined; front_is = sp.1; back_is = subst (λ (z : B). (K z).Whole h.1.back) sp.2 h.1.back_is })

  module _ {A : Type 0} (r : Rule Kind A) (K : A → Rest Kind) where
    pub sized_meets : (e : Event Kind) (v : List ℕ) → (ahead (with_length r) (λ x. K x.0)).Meets e v → (ahead r K).Meets e v
    sized_meets e v (inl h) = inl h
    sized_meets e v (inr h) = inr (h.0.0, record { front = h.1.front; back = h.1.back; joined = h.1.joined; front_is = h.1.front_is.0; back_is = h.1.back_is })

module _ {Kind : Type 0} (faults : FaultRanking Kind) where
  carries_valued : {A B : Type 0} (f : A → B) (r : Rule Kind A) (K : B → Rest Kind) (text : List ℕ) → Carries faults text r (λ a. K (f a)) (map_rule f r) K (λ _ a. f a)
  carries_valued {A} {B} f r K text = record {
    spells = λ u a h. (a, h, refl);
    meets = λ e u h. h;
    later = λ u a e x h. h;
    events = λ e v w j m. inl (valued_meets f r K e v m);
    whole = λ v w b j sp k. (sp.0, sp.1, subst (λ (z : B). (K z).Whole w) sp.2 k, sp.2);
  }

  pub valued_outcome : {A B : Type 0} (f : A → B) (r : Rule Kind A) (K : B → Rest Kind) (text : List ℕ) (out : Result (A × List ℕ) (Stop Kind)) → Outcome faults r (λ a. K (f a)) text out → Outcome faults (map_rule f r) K text (out >>= λ x. Ok (f x.0, x.1))
  valued_outcome f r K text (Ok x) h = carried_read faults (carries_valued f r K text) x.0 x.1 h
  valued_outcome f r K text (Err (Syntax left)) h = carried_stopped faults (carries_valued f r K text) left h
  valued_outcome f r K text (Err (Faulty kind left)) h = carried_at_fault faults (carries_valued f r K text) kind left h

  carries_sized : {A : Type 0} (r : Rule Kind A) (K : A → Rest Kind) (text : List ℕ) → Carries faults text r K (with_length r) (λ x. K x.0) (λ u a. (a, length u))
  carries_sized {A} r K text = record {
    spells = λ u a h. (h, refl);
    meets = λ e u h. h;
    later = λ u a e x h. h;
    events = λ e v w j m. inl (sized_meets r K e v m);
    whole = λ v w b j sp k. (b.0, sp.0, k, ap (λ (z : ℕ). (b.0, z)) sp.1);
  }

  length_used : (text used left : List ℕ) → text ≡ used ++ left → length used ≡ length text - length left
  length_used text used left j = omega (arith, ap length j, length-append used left)

  sized_outcome : {A : Type 0} (r : Rule Kind A) (K : A → Rest Kind) (text : List ℕ) (out : Result (A × List ℕ) (Stop Kind)) → Outcome faults r K text out → Outcome faults (with_length r) (λ x. K x.0) text (out >>= λ x. Ok ((x.0, length text - length x.1), x.1))
  sized_outcome {A} r K text (Ok x) h = subst (λ (z : ℕ). IsRead faults (with_length r) (λ y. K y.0) text (x.0, z) x.1) (length_used text h.used x.1 h.joined) (carried_read faults (carries_sized r K text) x.0 x.1 h)
  sized_outcome r K text (Err (Syntax left)) h = carried_stopped faults (carries_sized r K text) left h
  sized_outcome r K text (Err (Faulty kind left)) h = carried_at_fault faults (carries_sized r K text) kind left h

module _ {Kind : Type 0} {faults : FaultRanking Kind} where
  pub exact_valued : {A B : Type 0} {r : Rule Kind A} {K : B → Rest Kind} {p : Reader Kind A} (f : A → B) → Exact faults r (λ a. K (f a)) p → Exact faults (map_rule f r) K (read_mapped f p)
  exact_valued {A} {B} {r} {K} {p} f h = record { by = λ text. valued_outcome faults f r K text (p text) (h.by text) }

  pub exact_sized : {A : Type 0} {r : Rule Kind A} {K : A → Rest Kind} {p : Reader Kind A} → Exact faults r K p → Exact faults (with_length r) (λ x. K x.0) (read_with_length p)
  exact_sized {A} {r} {K} {p} h = record { by = λ text. sized_outcome faults r K text (p text) (h.by text) }

-- # Choices

module _ {Kind : Type 0} where
  module _ {A : Type 0} (r s : Rule Kind A) (K : A → Rest Kind) where
    pub either_meets : (e : Event Kind) (v : List ℕ) → (ahead (either r s) K).Meets e v → (ahead r K).Meets e v ⊎ (ahead s K).Meets e v
    either_meets e v (inl (inl h)) = inl (inl h)
    either_meets e v (inl (inr h)) = inr (inl h)
    either_meets e v (inr h) = ⊎_elim
        (λ l. inl (inr (h.0, record { front = h.1.front; back = h.1.back; joined = h.1.joined; front_is = l; back_is = h.1.back_is })))
        (λ l. inr (inr (h.0, record { front = h.1.front; back = h.1.back; joined = h.1.joined; front_is = l; back_is = h.1.back_is })))
        h.1.front_is

    pub either_whole : (v : List ℕ) → (ahead (either r s) K).Whole v → (ahead r K).Whole v ⊎ (ahead s K).Whole v
    either_whole v h = ⊎_elim
        (λ l. inl (h.0, record { front = h.1.front; back = h.1.back; joined = h.1.joined; front_is = l; back_is = h.1.back_is }))
        (λ l. inr (h.0, record { front = h.1.front; back = h.1.back; joined = h.1.joined; front_is = l; back_is = h.1.back_is }))
        h.1.front_is

module _ {Kind : Type 0} (faults : FaultRanking Kind) where
  module _ {A : Type 0} (r s : Rule Kind A) (K : A → Rest Kind) (text : List ℕ) where
    carries_first : Covers faults text (ahead s K) (ahead r K) → Carries faults text r K (either r s) K (same faults)
    carries_first c = record {
      spells = λ u a h. inl h;
      meets = λ e u h. inl h;
      later = λ u a e x h. h;
      events = λ e v w j m. ⊎_elim (λ h. inl h) (λ h. c.events e v w j h) (either_meets r s K e v m);
      whole = λ v w b j sp k. ⊎_elim
          (λ l. (b, l, k, refl))
          (λ l. absurd (c.whole (b, record { front = v; back = w; joined = j; front_is = l; back_is = k })))
          sp;
    }

    carries_second : Covers faults text (ahead r K) (ahead s K) → Carries faults text s K (either r s) K (same faults)
    carries_second c = record {
      spells = λ u a h. inr h;
      meets = λ e u h. inr h;
      later = λ u a e x h. h;
      events = λ e v w j m. ⊎_elim (λ h. c.events e v w j h) (λ h. inl h) (either_meets r s K e v m);
      whole = λ v w b j sp k. ⊎_elim
          (λ l. absurd (c.whole (b, record { front = v; back = w; joined = j; front_is = l; back_is = k })))
          (λ l. (b, l, k, refl))
          sp;
    }

    pub first_outcome : (out : Result (A × List ℕ) (Stop Kind)) → Covers faults text (ahead s K) (ahead r K) → Outcome faults r K text out → Outcome faults (either r s) K text out
    first_outcome out c h = carried_same faults (carries_first c) out h

    pub second_outcome : (out : Result (A × List ℕ) (Stop Kind)) → Covers faults text (ahead r K) (ahead s K) → Outcome faults s K text out → Outcome faults (either r s) K text out
    second_outcome out c h = carried_same faults (carries_second c) out h

    either_by : (b : Bool) (one other : Result (A × List ℕ) (Stop Kind)) → Outcome faults r K text one → Outcome faults s K text other → (b ≡ true → Covers faults text (ahead s K) (ahead r K)) → (b ≡ false → Covers faults text (ahead r K) (ahead s K)) → Outcome faults (either r s) K text (cond b one other)
    either_by true one other h i c d = first_outcome one (c refl) h
    either_by false one other h i c d = second_outcome other (d refl) i

module _ {Kind : Type 0} {faults : FaultRanking Kind} where
  -- A choice is read exactly where the test shows which member covers the other.
  pub exact_either : {A : Type 0} {r s : Rule Kind A} {K : A → Rest Kind} {p q : Reader Kind A} (test : List ℕ → Bool) → Exact faults r K p → Exact faults s K q → ((text : List ℕ) → test text ≡ true → Covers faults text (ahead s K) (ahead r K)) → ((text : List ℕ) → test text ≡ false → Covers faults text (ahead r K) (ahead s K)) → Exact faults (either r s) K (read_either test p q)
  exact_either {A} {r} {s} {K} {p} {q} test hp hq c d = record { by = λ text. either_by faults r s K text (test text) (p text) (q text) (hp.by text) (hq.by text) (c text) (d text) }

  -- Covers, part by part.
  pub covers_sequence : {A B : Type 0} {text : List ℕ} {r : Rule Kind A} {s : A → Rule Kind B} {K : A × B → Rest Kind} {X : Rest Kind} → Covers faults text (ahead r (λ a. ahead (s a) (λ b. K (a, b)))) X → Covers faults text (ahead (sequence r s) K) X
  covers_sequence {A} {B} {text} {r} {s} {K} {X} h = record { events = λ e v w j m. h.events e v w j (sequence_meets r s K e v m); whole = λ m. h.whole (sequence_whole r s K text m) }

  pub covers_either : {A : Type 0} {text : List ℕ} {r s : Rule Kind A} {K : A → Rest Kind} {X : Rest Kind} → Covers faults text (ahead r K) X → Covers faults text (ahead s K) X → Covers faults text (ahead (either r s) K) X
  covers_either {A} {text} {r} {s} {K} {X} h i = record {
    events = λ e v w j m. ⊎_elim (λ l. h.events e v w j l) (λ l. i.events e v w j l) (either_meets r s K e v m);
    whole = λ m. ⊎_elim (λ l. h.whole l) (λ l. i.whole l) (either_whole r s K text m);
  }

  pub covers_valued : {A B : Type 0} {text : List ℕ} {r : Rule Kind A} {K : B → Rest Kind} {X : Rest Kind} (f : A → B) → Covers faults text (ahead r (λ a. K (f a))) X → Covers faults text (ahead (map_rule f r) K) X
  covers_valued {A} {B} {text} {r} {K} {X} f h = record { events = λ e v w j m. h.events e v w j (valued_meets f r K e v m); whole = λ m. h.whole (valued_whole f r K text m) }
