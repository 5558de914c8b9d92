-- Rules with marks are read exactly: judged whole texts, marked prefixes, words that are known
-- and refused.
use Rattle.std.proofs.Common.{◌≡◌, ℕ, ◌+◌, ◌-◌, ◌<◌, ◌≤◌, Bool, true, false, cond, List, [], ◌∷◌, ◌++◌, length, take, drop, Result, Ok, Err, ◌⊎◌, inl, inr, ⊎_elim, refl, sym, ap, subst, ◌∙◌, append_assoc, arith}
use Rattle.std.specs.Prelude.{Option, Some, None}
use Rattle.std.proofs.lemmas.List.{length-append, append-nil, take-append-drop, length-drop}
use Rattle.xml_grammar.specs.Rules.{Event, Begin, Mark, Rule, word, with_prefix_mark, with_value_marks, refused_word}
use Rattle.xml_grammar.specs.TextReading.{Stop, Syntax, Faulty, Reader, ◌>>=◌, starts_with_word, read_word}
use Rattle.xml_grammar.specs.readers.RuleReaders.{read_with_prefix_mark, value_or_fault, read_with_value_marks, read_refused_word}
use Rattle.xml_grammar.specs.ParseResults.{FaultRanking}
use Rattle.xml_grammar.proofs.Exact.{Rest, ahead, Passed, Behind, Later, IsRead, IsAtFault, Outcome, Exact}
use Rattle.xml_grammar.proofs.Carry.{Idle, Covers, Carries, same, carried_same}
use Rattle.xml_grammar.proofs.Leaves.{exact_word}
use Rattle.xml_grammar.proofs.Fronts.{starts_is, no_start}
use Rattle.xml_grammar.proofs.Laws.{Lawful, Quiet}
use Rattle.xml_grammar.proofs.ClosedRules.{anything}

-- # Judged texts

-- The judge returns the first fault that a value implies, if there is one.
pub record Judges {Kind A : Type 0} (faults : FaultRanking Kind) (Says : A → Kind → ℕ → Type 0) (r : Rule Kind A) (judge : A → Option (Kind × ℕ)) : Type 0 where
  pub within : (u : List ℕ) (a : A) (k : Kind) (b : ℕ) → r.Spells u a → Says a k b → (0 < b) × (b ≤ length u)
  pub silent : (u : List ℕ) (a : A) → r.Spells u a → judge a ≡ None → (k : Kind) (b : ℕ) → Says a k b → faults.is_fault k ≡ false
  pub says : (u : List ℕ) (a : A) → r.Spells u a → (x : Kind × ℕ) → judge a ≡ Some x → Says a x.0 x.1
  pub is_fault : (u : List ℕ) (a : A) → r.Spells u a → (x : Kind × ℕ) → judge a ≡ Some x → faults.is_fault x.0 ≡ true
  pub first : (u : List ℕ) (a : A) → r.Spells u a → (x : Kind × ℕ) → judge a ≡ Some x → (k : Kind) (b : ℕ) → Says a k b → faults.is_fault k ≡ true → (b < x.1) ⊎ ((b ≡ x.1) × (faults.rank x.0 ≤ faults.rank k))

module _ {Kind A : Type 0} (faults : FaultRanking Kind) (Says : A → Kind → ℕ → Type 0) (r : Rule Kind A) (judge : A → Option (Kind × ℕ)) (judges : Judges faults Says r judge) (quiet : Quiet r) where
  module _ (text left : List ℕ) (a : A) (h : IsRead faults r (λ _. anything) text a left) where
    silent_settled : judge a ≡ None → (e : Event Kind) (v w : List ℕ) → text ≡ v ++ w → (ahead (with_value_marks Says r) (λ _. anything)).Meets e v → Passed faults e v h.used ⊎ Later faults anything e v h.used
    silent_settled none Begin v w j (inl m) = h.settled Begin v w j (inl m)
    silent_settled none (Mark k b) v w j (inl (inl m)) =
        let o = h.unique v w m.0 j m.1 tt in
        inl (judges.silent v m.0 m.1 (ap judge o.1 ∙ none) k b m.2)
    silent_settled none (Mark k b) v w j (inl (inr m)) = absurd (quiet.no_mark k b v m)
    silent_settled none e v w j (inr m) = absurd m.1.back_is

    judged_read : judge a ≡ None → IsRead faults (with_value_marks Says r) (λ _. anything) text a left
    judged_read none = record { used = h.used; joined = h.joined; spelled = h.spelled; settled = silent_settled none; unique = h.unique }

    module _ (x : Kind × ℕ) (said : judge a ≡ Some x) where
      place : ℕ
      place = length h.used - x.1

      is_within : (0 < x.1) × (x.1 ≤ length h.used)
      is_within = judges.within h.used a x.0 x.1 h.spelled (judges.says h.used a h.spelled x said)

      parts : h.used ≡ take place h.used ++ drop place h.used
      parts = sym (take-append-drop place h.used)

      back_is : length (drop place h.used) ≡ x.1
      unfolding place
      back_is = omega (arith, length-drop place h.used, is_within)

      front_is : length (take place h.used) + x.1 ≡ length h.used
      front_is = omega (arith, ap length parts, length-append (take place h.used) (drop place h.used), back_is)

      -- what is left at the place of the fault
      left_is : drop (length text - length left - x.1) text ≡ drop place h.used ++ left
      left_is =
          let n : length text - length left - x.1 ≡ length (take place h.used) = omega (arith, ap length h.joined, length-append h.used left, front_is) in
          let j : text ≡ take place h.used ++ (drop place h.used ++ left) = h.joined ∙ ap (λ (z : List ℕ). z ++ left) parts ∙ append_assoc (take place h.used) (drop place h.used) left in
          ap (λ (k : ℕ). drop k text) n ∙ ap (drop (length (take place h.used))) j ∙ dropped (take place h.used) (drop place h.used ++ left)
        where
          dropped : (u v : List ℕ) → drop (length u) (u ++ v) ≡ v
          dropped [] v = refl
          dropped (c ∷ u) v = dropped u v

      fault_settled : (e : Event Kind) (v w : List ℕ) → text ≡ v ++ w → (ahead (with_value_marks Says r) (λ _. anything)).Meets e v → Behind faults x.0 e v (take place h.used)
      fault_settled Begin v w j m = tt
      fault_settled (Mark k b) v w j (inl (inl m)) = λ t.
          let o = h.unique v w m.0 j m.1 tt in
          ⊎_elim
          (λ l. inl (omega (arith, l, ap length o.0, front_is)))
          (λ l. inr (omega (arith, l.0, ap length o.0, front_is), l.1))
          (judges.first v m.0 m.1 x (ap judge o.1 ∙ said) k b m.2 t)
      fault_settled (Mark k b) v w j (inl (inr m)) = absurd (quiet.no_mark k b v m)
      fault_settled (Mark k b) v w j (inr m) = absurd m.1.back_is

      judged_fault : IsAtFault faults (with_value_marks Says r) (λ _. anything) text x.0 (drop place h.used ++ left)
      judged_fault = record {
        used = take place h.used;
        joined = h.joined ∙ ap (λ (z : List ℕ). z ++ left) parts ∙ append_assoc (take place h.used) (drop place h.used) left;
        seen = drop place h.used;
        unseen = left;
        left_is = refl;
        met = inl (a, subst (λ (z : List ℕ). r.Spells z a) parts h.spelled, subst (Says a x.0) (sym back_is) (judges.says h.used a h.spelled x said));
        is_fault = judges.is_fault h.used a h.spelled x said;
        settled = fault_settled;
        beyond = λ v w b j s _. let o = h.unique v w b j s tt in omega (arith, ap length o.0, front_is, is_within);
      }

    judged_by : (o : Option (Kind × ℕ)) → judge a ≡ o → Outcome faults (with_value_marks Says r) (λ _. anything) text (value_or_fault text (a, left) o)
    judged_by None e = judged_read e
    judged_by (Some x) e = subst (λ (z : List ℕ). IsAtFault faults (with_value_marks Says r) (λ _. anything) text x.0 z) (sym (left_is x e)) (judged_fault x e)

  judged_outcome : (text : List ℕ) (out : Result (A × List ℕ) (Stop Kind)) → Outcome faults r (λ _. anything) text out → Outcome faults (with_value_marks Says r) (λ _. anything) text (out >>= λ x. value_or_fault text x (judge x.0))
  judged_outcome text (Ok x) h = judged_by text x.1 x.0 h (judge x.0) refl
  judged_outcome text (Err (Syntax left)) h = record { used = h.used; joined = h.joined; begun = h.begun; settled = broken_settled; none = h.none }
    where
      broken_settled : (e : Event Kind) (v w : List ℕ) → text ≡ v ++ w → (ahead (with_value_marks Says r) (λ _. anything)).Meets e v → Passed faults e v h.used
      broken_settled Begin v w j (inl m) = h.settled Begin v w j (inl m)
      broken_settled (Mark k b) v w j (inl (inl m)) = absurd (h.none v w m.0 j m.1 tt)
      broken_settled (Mark k b) v w j (inl (inr m)) = absurd (quiet.no_mark k b v m)
      broken_settled e v w j (inr m) = absurd m.1.back_is
  judged_outcome text (Err (Faulty kind left)) h = absurd (quiet.no_mark kind (length h.seen) (h.used ++ h.seen) h.met)

-- # Marked prefixes

-- The test shows where there is a marked prefix that is a fault, and no other fault comes before
-- it at the same place.
pub record Marks {Kind A : Type 0} (faults : FaultRanking Kind) (kind : Kind) (Front : List ℕ → Type 0) (r : Rule Kind A) (test : List ℕ → Bool) : Type 0 where
  pub is_fault : (text : List ℕ) → test text ≡ true → faults.is_fault kind ≡ true
  pub stands : (text : List ℕ) → test text ≡ true → (seen : List ℕ) × (unseen : List ℕ) × (text ≡ seen ++ unseen) × Front seen
  pub harmless : (text : List ℕ) → test text ≡ false → (v w : List ℕ) → text ≡ v ++ w → Front v → faults.is_fault kind ≡ false
  pub least : (k : Kind) → faults.is_fault k ≡ true → faults.rank kind ≤ faults.rank k
  pub some : (u : List ℕ) (a : A) → r.Spells u a → 0 < length u

module _ {Kind A : Type 0} (faults : FaultRanking Kind) (kind : Kind) (Front : List ℕ → Type 0) (r : Rule Kind A) (test : List ℕ → Bool) (marks : Marks faults kind Front r test) (within : (k : Kind) (b : ℕ) (v : List ℕ) → r.Meets (Mark k b) v → b ≤ length v) where
  marked_settled : faults.is_fault kind ≡ true → (e : Event Kind) (v : List ℕ) → (ahead (with_prefix_mark kind Front r) (λ _. anything)).Meets e v → Behind faults kind e v []
  marked_settled t Begin v m = tt
  marked_settled t (Mark k b) v (inl (inl m)) = λ f. inr (omega (arith, m.1), marks.least k f)
  marked_settled t (Mark k b) v (inl (inr m)) = λ f. by_place (within k b v m) (marks.least k f)
    where
      by_place : b ≤ length v → faults.rank kind ≤ faults.rank k → (0 + b < length v) ⊎ ((0 + b ≡ length v) × (faults.rank kind ≤ faults.rank k))
      by_place le n = grind (arith)
  marked_settled t (Mark k b) v (inr m) = absurd m.1.back_is

  marked_fault : (text : List ℕ) → test text ≡ true → IsAtFault faults (with_prefix_mark kind Front r) (λ _. anything) text kind text
  marked_fault text t =
      let s = marks.stands text t in
      record {
        used = [];
        joined = refl;
        seen = s.0;
        unseen = s.1;
        left_is = s.2;
        met = inl (refl, refl, s.3);
        is_fault = marks.is_fault text t;
        settled = λ e v w j m. marked_settled (marks.is_fault text t) e v m;
        beyond = λ v w b j m _. marks.some v b m;
      }

  carries_marked : (text : List ℕ) → test text ≡ false → Carries faults text r (λ _. anything) (with_prefix_mark kind Front r) (λ _. anything) (same faults)
  carries_marked text f = record {
    spells = λ u a h. h;
    meets = to_marked;
    later = λ u a e x h. h;
    events = from_marked;
    whole = λ v w b j sp k. (b, sp, k, refl);
  }
    where
      to_marked : (e : Event Kind) (u : List ℕ) → r.Meets e u → (with_prefix_mark kind Front r).Meets e u
      to_marked Begin u h = h
      to_marked (Mark k b) u h = inr h

      from_marked : (e : Event Kind) (v w : List ℕ) → text ≡ v ++ w → (ahead (with_prefix_mark kind Front r) (λ _. anything)).Meets e v → (ahead r (λ _. anything)).Meets e v ⊎ Idle faults e v
      from_marked Begin v w j (inl m) = inl (inl m)
      from_marked (Mark k b) v w j (inl (inl m)) = inr (ap faults.is_fault m.0 ∙ marks.harmless text f v w j m.2)
      from_marked (Mark k b) v w j (inl (inr m)) = inl (inl m)
      from_marked e v w j (inr m) = inl (inr m)

  marked_by : (text : List ℕ) (b : Bool) (out : Result (A × List ℕ) (Stop Kind)) → test text ≡ b → (test text ≡ false → Outcome faults r (λ _. anything) text out) → Outcome faults (with_prefix_mark kind Front r) (λ _. anything) text (cond b (Err (Faulty kind text)) out)
  marked_by text true out t h = marked_fault text t
  marked_by text false out t h = carried_same faults (carries_marked text t) out (h t)

-- # Words that are refused

module _ {Kind A : Type 0} (faults : FaultRanking Kind) (kind : Kind) (seen rest : List ℕ) (K : A → Rest Kind) (is_fault : faults.is_fault kind ≡ true) (text : List ℕ) where
  Trap : Rule Kind A
  Trap = refused_word kind seen rest

  trap_settled : (e : Event Kind) (v : List ℕ) → (ahead Trap K).Meets e v → Behind faults kind e v []
  unfolding Trap
  trap_settled Begin v m = tt
  trap_settled (Mark k b) v (inl m) = λ t. inr (omega (arith, m.1), omega (arith, ap faults.rank m.0))
  trap_settled (Mark k b) v (inr m) = absurd m.1.front_is

  trap_fault : starts_with_word (seen ++ rest) text ≡ true → IsAtFault faults Trap K text kind text
  unfolding Trap
  trap_fault t = record {
    used = [];
    joined = refl;
    seen = seen ++ rest;
    unseen = drop (length (seen ++ rest)) text;
    left_is = starts_is (seen ++ rest) text t;
    met = (refl, refl, refl);
    is_fault = is_fault;
    settled = λ e v w j m. trap_settled e v m;
    beyond = λ v w b j m _. absurd m;
  }

  module _ (no : starts_with_word (seen ++ rest) text ≡ false) where
    trap_passed : (used : List ℕ) → ((v w : List ℕ) → text ≡ v ++ w → (more : List ℕ) × (seen ≡ v ++ more) → length v ≤ length used) → (e : Event Kind) (v w : List ℕ) → text ≡ v ++ w → (ahead Trap K).Meets e v → Passed faults e v used
    unfolding Trap
    trap_passed used longest Begin v w j (inl m) = longest v w j m
    trap_passed used longest (Mark k b) v w j (inl m) = absurd (no_start (seen ++ rest) w no (j ∙ ap (λ (z : List ℕ). z ++ w) m.2))
    trap_passed used longest e v w j (inr m) = absurd m.1.front_is

    trap_stopped : (out : Result (Unit {0} × List ℕ) (Stop Kind)) → Outcome faults (word seen) (λ _. anything) text out → Outcome faults Trap K text (out >>= λ x. Err (Syntax x.1))
    unfolding Trap
    trap_stopped (Ok x) h = record {
      used = h.used;
      joined = h.joined;
      begun = ([], sym h.spelled ∙ sym (append-nil h.used));
      settled = trap_passed h.used (λ v w j m. ⊎_elim (λ p. p) (λ z. absurd z.2) (h.settled Begin v w j (inl m)));
      none = λ v w b j m _. m;
    }
    trap_stopped (Err (Syntax left)) h = record {
      used = h.used;
      joined = h.joined;
      begun = h.begun;
      settled = trap_passed h.used (λ v w j m. h.settled Begin v w j (inl m));
      none = λ v w b j m _. m;
    }
    trap_stopped (Err (Faulty k left)) h = absurd h.met

  trap_by : (b : Bool) (out : Result (Unit {0} × List ℕ) (Stop Kind)) → starts_with_word (seen ++ rest) text ≡ b → Outcome faults (word seen) (λ _. anything) text out → Outcome faults (refused_word kind seen rest) K text (cond b (Err (Faulty kind text)) (out >>= λ x. Err (Syntax x.1)))
  unfolding Trap
  trap_by true out e h = trap_fault e
  trap_by false out e h = trap_stopped e out h

module _ {Kind : Type 0} {faults : FaultRanking Kind} where
  -- A judged rule is closed, and has no other marks.
  pub exact_judged : {A : Type 0} {Says : A → Kind → ℕ → Type 0} {r : Rule Kind A} {judge : A → Option (Kind × ℕ)} {p : Reader Kind A} → Judges faults Says r judge → Quiet r → Exact faults r (λ _. anything) p → Exact faults (with_value_marks Says r) (λ _. anything) (read_with_value_marks judge p)
  exact_judged {A} {Says} {r} {judge} {p} judges quiet h = record { by = λ text. judged_outcome faults Says r judge judges quiet text (p text) (h.by text) }

  -- A marked rule is closed. It has to be read exactly only where the test fails.
  pub exact_marked : {A : Type 0} {kind : Kind} {Front : List ℕ → Type 0} {r : Rule Kind A} {test : List ℕ → Bool} (p : Reader Kind A) → Marks faults kind Front r test → Lawful r → ((text : List ℕ) → test text ≡ false → Outcome faults r (λ _. anything) text (p text)) → Exact faults (with_prefix_mark kind Front r) (λ _. anything) (read_with_prefix_mark kind test p)
  exact_marked {A} {kind} {Front} {r} {test} p marks lawful h = record { by = λ text. marked_by faults kind Front r test marks lawful.within text (test text) (p text) refl (h text) }

  pub exact_trap : {A : Type 0} {kind : Kind} (seen rest : List ℕ) {K : A → Rest Kind} → faults.is_fault kind ≡ true → Exact faults (refused_word kind seen rest) K (read_refused_word kind seen rest)
  exact_trap {A} {kind} seen rest {K} is_fault =
      let w : Exact faults (word seen) (λ _. anything) (read_word seen) = exact_word in
      record { by = λ text. trap_by faults kind seen rest K is_fault text (starts_with_word (seen ++ rest) text) (read_word seen text) refl (w.by text) }

  -- A mark that isn't a fault changes nothing.
  pub exact_unmarked : {A : Type 0} {kind : Kind} {Front : List ℕ → Type 0} {r : Rule Kind A} {p : Reader Kind A} → faults.is_fault kind ≡ false → Exact faults r (λ _. anything) p → Exact faults (with_prefix_mark kind Front r) (λ _. anything) p
  exact_unmarked {A} {kind} {Front} {r} {p} harmless h = record { by = λ text. carried_same faults (unmarked text) (p text) (h.by text) }
    where
      to_marked : (e : Event Kind) (u : List ℕ) → r.Meets e u → (with_prefix_mark kind Front r).Meets e u
      to_marked Begin u m = m
      to_marked (Mark k b) u m = inr m

      from_marked : (e : Event Kind) (v : List ℕ) → (ahead (with_prefix_mark kind Front r) (λ _. anything)).Meets e v → (ahead r (λ _. anything)).Meets e v ⊎ Idle faults e v
      from_marked Begin v (inl m) = inl (inl m)
      from_marked (Mark k b) v (inl (inl m)) = inr (ap faults.is_fault m.0 ∙ harmless)
      from_marked (Mark k b) v (inl (inr m)) = inl (inl m)
      from_marked e v (inr m) = inl (inr m)

      unmarked : (text : List ℕ) → Carries faults text r (λ _. anything) (with_prefix_mark kind Front r) (λ _. anything) (same faults)
      unmarked text = record { spells = λ u a m. m; meets = to_marked; later = λ u a e x m. m; events = λ e v w j m. from_marked e v m; whole = λ v w b j sp k. (b, sp, k, refl) }

  -- Where there is no refused word, only prefixes of its first part are there.
  pub trap_covers : {A : Type 0} {kind : Kind} (seen rest : List ℕ) {J : A → Rest Kind} {X : Rest Kind} {text : List ℕ} → ((u x y : List ℕ) → seen ≡ u ++ x → text ≡ u ++ y → X.Meets Begin u ⊎ (u ≡ [])) → starts_with_word (seen ++ rest) text ≡ false → Covers faults text (ahead (refused_word kind seen rest) J) X
  trap_covers {A} {kind} seen rest {J} {X} {text} fronts absent = record { events = trap_events; whole = λ m. m.1.front_is }
    where
      trap_events : (e : Event Kind) (v w : List ℕ) → text ≡ v ++ w → (ahead (refused_word kind seen rest) J).Meets e v → X.Meets e v ⊎ Idle faults e v
      trap_events Begin v w j (inl m) = fronts v m.0 w m.1 j
      trap_events (Mark k b) v w j (inl m) = absurd (no_start (seen ++ rest) w absent (j ∙ ap (λ (z : List ℕ). z ++ w) m.2))
      trap_events e v w j (inr m) = absurd m.1.front_is
