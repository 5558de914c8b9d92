-- Closed rules, which end by themselves: they are read exactly before anything, and so before
-- whatever follows.
use Rattle.std.proofs.Common.{◌≡◌, ℕ, ◌<◌, Bool, true, false, cond, List, [], ◌∷◌, ◌++◌, length, Result, Ok, Err, ◌⊎◌, inl, inr, ⊎_elim, refl, ap, subst, ◌∙◌, arith}
use Rattle.std.proofs.lemmas.List.{length-append, append-nil}
use Rattle.xml_grammar.specs.Rules.{Event, Begin, Mark, Rule, filter_rule, atomic}
use Rattle.xml_grammar.specs.TextReading.{Stop, Syntax, Faulty, Reader, ◌>>=◌, first_char_is}
use Rattle.xml_grammar.specs.readers.RuleReaders.{read_filtered, stop_at_start, read_atomic}
use Rattle.xml_grammar.specs.ParseResults.{FaultRanking}
use Rattle.xml_grammar.proofs.Exact.{Rest, ahead, regroup, Passed, Behind, Later, IsRead, IsStopped, IsAtFault, Outcome, Exact}
use Rattle.xml_grammar.proofs.Heads.{Heads, Not}
use Rattle.xml_grammar.proofs.Laws.{Lawful, Quiet, Inside}

module _ {Kind : Type 0} where
  -- Anything may follow.
  abbrev pub anything : Rest Kind
  anything = record { Meets = λ e v. ⊥; Whole = λ v. Unit {0} }

  -- Anything may follow that doesn't begin with a character of the class.
  abbrev pub unless : (ℕ → Bool) → Rest Kind
  unless q = record { Meets = λ e v. ⊥; Whole = λ v. first_char_is q v ≡ false }

  pub heads_unless : {q : ℕ → Bool} → Heads (Not q) (unless q)
  heads_unless = record { meets = λ e c x m. absurd m; whole = λ c x m. m; none = λ k b m. m }

  pub inside_anything : Inside (anything)
  inside_anything = record { within = λ k b v m. absurd m }

-- # Closed rules

module _ {Kind A : Type 0} (faults : FaultRanking Kind) (r : Rule Kind A) (K : A → Rest Kind) (inside : (a : A) → Inside (K a)) where
  closed_read : (text left : List ℕ) (a : A) → IsRead faults r (λ _. anything) text a left → IsRead faults r K text a left
  closed_read text left a h = record {
    used = h.used;
    joined = h.joined;
    spelled = h.spelled;
    settled = λ e v w j m. ⊎_elim
        (λ l. ⊎_elim (λ p. inl p) (λ z. absurd z.2) (h.settled e v w j (inl l)))
        (λ l.
        let o = h.unique l.1.front (l.1.back ++ w) l.0 (regroup w l.1.front l.1.back j l.1.joined) l.1.front_is tt in
        inr (l.1.back, l.1.joined ∙ ap (λ (z : List ℕ). z ++ l.1.back) o.0, subst (λ (z : A). (K z).Meets e l.1.back) o.1 l.1.back_is))
        m;
    unique = λ v w b j s _. h.unique v w b j s tt;
  }

  closed_stopped : (text left : List ℕ) → IsStopped faults r (λ _. anything) text left → IsStopped faults r K text left
  closed_stopped text left h = record {
    used = h.used;
    joined = h.joined;
    begun = h.begun;
    settled = λ e v w j m. ⊎_elim
        (λ l. h.settled e v w j (inl l))
        (λ l. absurd (h.none l.1.front (l.1.back ++ w) l.0 (regroup w l.1.front l.1.back j l.1.joined) l.1.front_is tt))
        m;
    none = λ v w b j s _. h.none v w b j s tt;
  }

  closed_at_fault : (text left : List ℕ) (kind : Kind) → IsAtFault faults r (λ _. anything) text kind left → IsAtFault faults r K text kind left
  closed_at_fault text left kind h = record {
    used = h.used;
    joined = h.joined;
    seen = h.seen;
    unseen = h.unseen;
    left_is = h.left_is;
    met = h.met;
    is_fault = h.is_fault;
    settled = λ e v w j m. ⊎_elim
        (λ l. h.settled e v w j (inl l))
        (λ l. later e v l.0 l.1.front l.1.back l.1.joined (h.beyond l.1.front (l.1.back ++ w) l.0 (regroup w l.1.front l.1.back j l.1.joined) l.1.front_is tt) l.1.back_is)
        m;
    beyond = λ v w b j s _. h.beyond v w b j s tt;
  }
    where
      later : (e : Event Kind) (v : List ℕ) (a : A) (front back : List ℕ) → v ≡ front ++ back → length h.used < length front → (K a).Meets e back → Behind faults kind e v h.used
      later Begin v a front back j lt m = tt
      later (Mark k b) v a front back j lt m = λ _. inl (omega (arith, lt, (inside a).within k b back m, ap length j, length-append front back))

  closed_outcome : (text : List ℕ) (out : Result (A × List ℕ) (Stop Kind)) → Outcome faults r (λ _. anything) text out → Outcome faults r K text out
  closed_outcome text (Ok x) h = closed_read text x.1 x.0 h
  closed_outcome text (Err (Syntax left)) h = closed_stopped text left h
  closed_outcome text (Err (Faulty kind left)) h = closed_at_fault text left kind h

module _ {Kind : Type 0} {faults : FaultRanking Kind} where
  -- What is read exactly before anything is read exactly before whatever follows.
  pub exact_closed : {A : Type 0} {r : Rule Kind A} {K : A → Rest Kind} {p : Reader Kind A} → ((a : A) → Inside (K a)) → Exact faults r (λ _. anything) p → Exact faults r K p
  exact_closed {A} {r} {K} {p} inside h = record { by = λ text. closed_outcome faults r K inside text (p text) (h.by text) }

-- # Whole or not at all

module _ {Kind A : Type 0} (faults : FaultRanking Kind) (r : Rule Kind A) (K : A → Rest Kind) (quiet : Quiet r) where
  module _ (text left : List ℕ) (a : A) (h : IsRead faults r (λ _. anything) text a left) where
    atomic_settled : (e : Event Kind) (v w : List ℕ) → text ≡ v ++ w → (ahead (atomic r) K).Meets e v → Passed faults e v h.used ⊎ Later faults (K a) e v h.used
    atomic_settled Begin v w j (inl (inl m)) = inl (omega (arith, ap length m))
    atomic_settled Begin v w j (inl (inr m)) = inl (omega (arith, ap length (h.unique v w m.0 j m.1 tt).0))
    atomic_settled (Mark k b) v w j (inl m) = elim m [ ]
    atomic_settled e v w j (inr l) =
        let o = h.unique l.1.front (l.1.back ++ w) l.0 (regroup w l.1.front l.1.back j l.1.joined) l.1.front_is tt in
        inr (l.1.back, l.1.joined ∙ ap (λ (z : List ℕ). z ++ l.1.back) o.0, subst (λ (z : A). (K z).Meets e l.1.back) o.1 l.1.back_is)

    atomic_read : IsRead faults (atomic r) K text a left
    atomic_read = record { used = h.used; joined = h.joined; spelled = h.spelled; settled = atomic_settled; unique = λ v w b j s _. h.unique v w b j s tt }

  module _ (text : List ℕ) (none : (v w : List ℕ) (b : A) → text ≡ v ++ w → r.Spells v b → ⊥) where
    atomic_none : (e : Event Kind) (v w : List ℕ) → text ≡ v ++ w → (ahead (atomic r) K).Meets e v → Passed faults e v []
    atomic_none Begin v w j (inl (inl m)) = omega (arith, ap length m)
    atomic_none Begin v w j (inl (inr m)) = absurd (none v w m.0 j m.1)
    atomic_none (Mark k b) v w j (inl m) = elim m [ ]
    atomic_none e v w j (inr l) = absurd (none l.1.front (l.1.back ++ w) l.0 (regroup w l.1.front l.1.back j l.1.joined) l.1.front_is)

    atomic_stopped : IsStopped faults (atomic r) K text text
    atomic_stopped = record { used = []; joined = refl; begun = inl refl; settled = atomic_none; none = λ v w b j s _. none v w b j s }

  atomic_outcome : (text : List ℕ) (out : Result (A × List ℕ) (Stop Kind)) → Outcome faults r (λ _. anything) text out → Outcome faults (atomic r) K text (stop_at_start text out)
  atomic_outcome text (Ok x) h = atomic_read text x.1 x.0 h
  atomic_outcome text (Err (Syntax left)) h = atomic_stopped text (λ v w b j s. h.none v w b j s tt)
  atomic_outcome text (Err (Faulty kind left)) h = absurd (quiet.no_mark kind (length h.seen) (h.used ++ h.seen) h.met)

-- # Values that pass

module _ {Kind A : Type 0} (faults : FaultRanking Kind) (t : A → Bool) (r : Rule Kind A) (K : A → Rest Kind) (q : ℕ → Bool) (lawful : Lawful r) (heads : (a : A) → Heads (Not q) (K a)) where
  module _ (text left : List ℕ) (a : A) (h : IsRead faults r (λ _. unless q) text a left) where
    -- a text that ends where the class doesn't continue is the one that was read
    at_end : (v w : List ℕ) (b : A) → text ≡ v ++ w → r.Spells v b → (K b).Whole w → (v ≡ h.used) × (b ≡ a)
    at_end v [] b j s m = h.unique v [] b j s refl
    at_end v (c ∷ w) b j s m = h.unique v (c ∷ w) b j s ((heads b).whole c w m)

    within_rule : (e : Event Kind) (v w : List ℕ) → text ≡ v ++ w → r.Meets e v → Passed faults e v h.used
    within_rule e v w j m = ⊎_elim (λ p. p) (λ z. absurd z.2) (h.settled e v w j (inl m))

    what_follows : (e : Event Kind) (v w front back : List ℕ) (b : A) → text ≡ v ++ w → v ≡ front ++ back → r.Spells front b → (K b).Meets e back → Passed faults e v h.used ⊎ ((front ≡ h.used) × (b ≡ a))
    what_follows Begin v w front [] b j s sp m = inl (let n = within_rule Begin front w (j ∙ ap (λ (z : List ℕ). z ++ w) (s ∙ append-nil front)) (lawful.whole front b sp) in omega (arith, n, ap length s, length-append front []))
    what_follows (Mark k d) v w front [] b j s sp m = absurd ((heads b).none k d m)
    what_follows e v w front (c ∷ x) b j s sp m = inr (h.unique front ((c ∷ x) ++ w) b (regroup w front (c ∷ x) j s) sp ((heads b).meets e c x m))

    only_read : t a ≡ true → IsRead faults (filter_rule t r) K text a left
    only_read pass = record {
      used = h.used;
      joined = h.joined;
      spelled = (h.spelled, pass);
      settled = λ e v w j m. ⊎_elim
          (λ l. inl (within_rule e v w j l))
          (λ l. ⊎_elim
          (λ p. inl p)
          (λ o. inr (l.1.back, l.1.joined ∙ ap (λ (z : List ℕ). z ++ l.1.back) o.0, subst (λ (z : A). (K z).Meets e l.1.back) o.1 l.1.back_is))
          (what_follows e v w l.1.front l.1.back l.0 j l.1.joined l.1.front_is.0 l.1.back_is))
          m;
      unique = λ v w b j s k. at_end v w b j s.0 k;
    }

    only_stopped : t a ≡ false → IsStopped faults (filter_rule t r) K text left
    only_stopped fail = record {
      used = h.used;
      joined = h.joined;
      begun = lawful.whole h.used a h.spelled;
      settled = λ e v w j m. ⊎_elim
          (λ l. within_rule e v w j l)
          (λ l. ⊎_elim
          (λ p. p)
          (λ o. absurd (let yes = l.1.front_is.1 in let same : t l.0 ≡ t a = ap t o.1 in cc))
          (what_follows e v w l.1.front l.1.back l.0 j l.1.joined l.1.front_is.0 l.1.back_is))
          m;
      none = λ v w b j s k. let o = at_end v w b j s.0 k in let yes = s.1 in let same : t b ≡ t a = ap t o.1 in absurd cc;
    }

    only_by : (b : Bool) → t a ≡ b → Outcome faults (filter_rule t r) K text (cond b (Ok (a, left)) (Err (Syntax left)))
    only_by true e = only_read e
    only_by false e = only_stopped e

  fewer : (e : Event Kind) (v : List ℕ) → (ahead (filter_rule t r) K).Meets e v → (ahead r K).Meets e v
  fewer e v (inl m) = inl m
  fewer e v (inr l) = inr (l.0, record { front = l.1.front; back = l.1.back; joined = l.1.joined; front_is = l.1.front_is.0; back_is = l.1.back_is })

  only_outcome : (text : List ℕ) (out : Result (A × List ℕ) (Stop Kind)) → Outcome faults r (λ _. unless q) text out → Outcome faults r K text out → Outcome faults (filter_rule t r) K text (out >>= λ x. cond (t x.0) (Ok x) (Err (Syntax x.1)))
  only_outcome text (Ok x) h g = only_by text x.1 x.0 h (t x.0) refl
  only_outcome text (Err (Syntax left)) h g = record {
    used = g.used;
    joined = g.joined;
    begun = g.begun;
    settled = λ e v w j m. g.settled e v w j (fewer e v m);
    none = λ v w b j s k. g.none v w b j s.0 k;
  }
  only_outcome text (Err (Faulty kind left)) h g = record {
    used = g.used;
    joined = g.joined;
    seen = g.seen;
    unseen = g.unseen;
    left_is = g.left_is;
    met = g.met;
    is_fault = g.is_fault;
    settled = λ e v w j m. g.settled e v w j (fewer e v m);
    beyond = λ v w b j s k. g.beyond v w b j s.0 k;
  }

module _ {Kind : Type 0} {faults : FaultRanking Kind} where
  pub exact_atomic : {A : Type 0} {r : Rule Kind A} {K : A → Rest Kind} {p : Reader Kind A} → Quiet r → Exact faults r (λ _. anything) p → Exact faults (atomic r) K (read_atomic p)
  exact_atomic {A} {r} {K} {p} quiet h = record { by = λ text. atomic_outcome faults r K quiet text (p text) (h.by text) }

  -- The rule is read exactly wherever the class doesn't continue, and before what follows, which
  -- doesn't begin with a character of the class.
  pub exact_only : {A : Type 0} {r : Rule Kind A} {K : A → Rest Kind} {p : Reader Kind A} (t : A → Bool) (q : ℕ → Bool) → Lawful r → ((a : A) → Heads (Not q) (K a)) → Exact faults r (λ _. unless q) p → Exact faults r K p → Exact faults (filter_rule t r) K (read_filtered t p)
  exact_only {A} {r} {K} {p} t q lawful heads h g = record { by = λ text. only_outcome faults t r K q lawful heads text (p text) (h.by text) (g.by text) }
