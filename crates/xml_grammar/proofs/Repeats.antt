-- Repetitions are read exactly where a test shows whether one more member follows.
use Rattle.std.proofs.Common.{◌≡◌, ℕ, zero, suc, ◌<◌, ◌≤◌, Bool, true, false, cond, List, [], ◌∷◌, ◌++◌, length, Result, Ok, Err, ◌⊎◌, inl, inr, ⊎_elim, encode_utf8_all, refl, sym, ap, subst, ◌∙◌, append_assoc, arith}
use Rattle.std.proofs.lemmas.Str.{length-le-encodes}
use Rattle.std.proofs.lemmas.List.{length-append, nil_from_length}
use Rattle.xml_grammar.specs.Rules.{Event, Mark, Rule, sequence, map_rule, SpellsEach, many}
use Rattle.xml_grammar.specs.TextReading.{Stop, Reader, ◌>>=◌}
use Rattle.xml_grammar.specs.readers.RuleReaders.{read_at_most, read_many}
use Rattle.xml_grammar.specs.ParseResults.{FaultRanking}
use Rattle.xml_grammar.proofs.Exact.{Rest, ahead, regroup, sequence_outcome, IsRead, Outcome, Exact}
use Rattle.xml_grammar.proofs.Carry.{idle_passed, Covers, Carries, same, carried_same, valued_outcome}
use Rattle.xml_grammar.proofs.Heads.{Starts, Heads, heads_starts}

module _ {Kind A : Type 0} (r : Rule Kind A) (K : Rest Kind) where
  -- what follows a member: more members, and what follows them
  abbrev pub more : A → Rest Kind
  more _ = ahead (many r) (λ _. K)

  abbrev pub put : A × List A → List A
  put x = x.0 ∷ x.1

  -- a member and more of them
  abbrev pub one_more : Rule Kind (List A)
  one_more = map_rule put (sequence r (λ _. many r))

  at_back : (P : List ℕ → Type 0) (v front back : List ℕ) → v ≡ front ++ back → front ≡ [] → P back → P v
  at_back P v front back j e h = subst P (sym (j ∙ ap (λ (z : List ℕ). z ++ back) e)) h

  -- the events of a repetition are the events of what follows it, or of a member and more
  pub many_meets : (e : Event Kind) (v : List ℕ) → (ahead (many r) (λ _. K)).Meets e v → K.Meets e v ⊎ (ahead r more).Meets e v
  many_meets e v (inl ([], sp)) = inr (inl (at_back (λ (z : List ℕ). r.Meets e z) v sp.front sp.back sp.joined sp.front_is sp.back_is))
  many_meets e v (inl (x ∷ xs, sp)) =
      let f = sp.front_is in
      inr (inr (x, record { front = f.front; back = f.back ++ sp.back; joined = regroup sp.back f.front f.back sp.joined f.joined; front_is = f.front_is; back_is = inl (xs, record { front = f.back; back = sp.back; joined = refl; front_is = f.back_is; back_is = sp.back_is }) }))
  many_meets e v (inr ([], sp)) = inl (at_back (λ (z : List ℕ). K.Meets e z) v sp.front sp.back sp.joined sp.front_is sp.back_is)
  many_meets e v (inr (x ∷ xs, sp)) =
      let f = sp.front_is in
      inr (inr (x, record { front = f.front; back = f.back ++ sp.back; joined = regroup sp.back f.front f.back sp.joined f.joined; front_is = f.front_is; back_is = inr (xs, record { front = f.back; back = sp.back; joined = refl; front_is = f.back_is; back_is = sp.back_is }) }))

  pub many_whole : (v : List ℕ) → (ahead (many r) (λ _. K)).Whole v → K.Whole v ⊎ (ahead r more).Whole v
  many_whole v ([], sp) = inl (at_back K.Whole v sp.front sp.back sp.joined sp.front_is sp.back_is)
  many_whole v (x ∷ xs, sp) =
      let f = sp.front_is in
      inr (x, record { front = f.front; back = f.back ++ sp.back; joined = regroup sp.back f.front f.back sp.joined f.joined; front_is = f.front_is; back_is = (xs, record { front = f.back; back = sp.back; joined = refl; front_is = f.back_is; back_is = sp.back_is }) })

  more_meets : (e : Event Kind) (v : List ℕ) → (ahead r more).Meets e v → (ahead one_more (λ _. K)).Meets e v
  more_meets e v (inl m) = inl (inl m)
  more_meets e v (inr m) = ⊎_elim
      (λ l. inl (inr (m.0, record { front = m.1.front; back = m.1.back; joined = m.1.joined; front_is = m.1.front_is; back_is = l })))
      (λ l. inr (
        m.0 ∷ l.0,
        record {
          front = m.1.front ++ l.1.front;
          back = l.1.back;
          joined = m.1.joined ∙ ap (λ (z : List ℕ). m.1.front ++ z) l.1.joined ∙ sym (append_assoc m.1.front l.1.front l.1.back);
          front_is = ((m.0, l.0), record { front = m.1.front; back = l.1.front; joined = refl; front_is = m.1.front_is; back_is = l.1.front_is }, refl);
          back_is = l.1.back_is;
        },
      ))
      m.1.back_is

  pub one_more_meets : (e : Event Kind) (u : List ℕ) → one_more.Meets e u → (many r).Meets e u
  one_more_meets e u (inl h) = ([], record { front = []; back = u; joined = refl; front_is = refl; back_is = h })
  one_more_meets e u (inr h) =
      let n = h.1.back_is in (
        h.0 ∷ n.0,
        record {
          front = h.1.front ++ n.1.front;
          back = n.1.back;
          joined = h.1.joined ∙ ap (λ (z : List ℕ). h.1.front ++ z) n.1.joined ∙ sym (append_assoc h.1.front n.1.front n.1.back);
          front_is = record { front = h.1.front; back = n.1.front; joined = refl; front_is = h.1.front_is; back_is = n.1.front_is };
          back_is = n.1.back_is;
        },
      )

  module _ (faults : FaultRanking Kind) (text : List ℕ) where
    -- there is one more member
    carries_more : Covers faults text K (ahead r more) → Carries faults text one_more (λ _. K) (many r) (λ _. K) (same faults)
    carries_more c = record {
      spells = λ u xs h. subst (λ (z : List A). SpellsEach r z u) (sym h.2) (record { front = h.1.front; back = h.1.back; joined = h.1.joined; front_is = h.1.front_is; back_is = h.1.back_is });
      meets = one_more_meets;
      later = λ u a e x h. h;
      events = λ e v w j m. ⊎_elim
          (λ k. ⊎_elim (λ l. inl (more_meets e v l)) (λ i. inr i) (c.events e v w j k))
          (λ l. inl (more_meets e v l))
          (many_meets e v m);
      whole = members;
    }
      where
        members : (v w : List ℕ) (xs : List A) → text ≡ v ++ w → SpellsEach r xs v → K.Whole w → (ys : List A) × one_more.Spells v ys × K.Whole w × (xs ≡ ys)
        members v w [] j sp k = absurd (c.whole (subst K.Whole (sym (j ∙ ap (λ (z : List ℕ). z ++ w) sp)) k))
        members v w (x ∷ xs) j sp k = (x ∷ xs, ((x, xs), record { front = sp.front; back = sp.back; joined = sp.joined; front_is = sp.front_is; back_is = sp.back_is }, refl), k, refl)

    -- there is none
    stop_outcome : Covers faults text (ahead r more) K → IsRead faults (many r) (λ _. K) text [] text
    stop_outcome c = record {
      used = [];
      joined = refl;
      spelled = refl;
      settled = λ e v w j m. ⊎_elim
          (λ k. inr (v, refl, k))
          (λ h. ⊎_elim (λ k. inr (v, refl, k)) (λ i. inl (idle_passed faults e v [] i)) (c.events e v w j h))
          (many_meets e v m);
      unique = stops;
    }
      where
        stops : (v w : List ℕ) (b : List A) → text ≡ v ++ w → SpellsEach r b v → K.Whole w → (v ≡ []) × (b ≡ [])
        stops v w [] j sp k = (sp, refl)
        stops v w (x ∷ xs) j sp k = absurd (c.whole (x, record { front = sp.front; back = sp.back ++ w; joined = regroup w sp.front sp.back j sp.joined; front_is = sp.front_is; back_is = (xs, record { front = sp.back; back = w; joined = refl; front_is = sp.back_is; back_is = k }) }))

    abbrev read_both : Result (A × List ℕ) (Stop Kind) → Reader Kind (List A) → Result ((A × List A) × List ℕ) (Stop Kind)
    read_both out q = out >>= λ x. q x.1 >>= λ y. Ok ((x.0, y.0), y.1)

    abbrev put_both : Result ((A × List A) × List ℕ) (Stop Kind) → Result (List A × List ℕ) (Stop Kind)
    put_both out = out >>= λ z. Ok (put z.0, z.1)

    abbrev read_put : Result (A × List ℕ) (Stop Kind) → Reader Kind (List A) → Result (List A × List ℕ) (Stop Kind)
    read_put out q = out >>= λ x. q x.1 >>= λ y. Ok (x.0 ∷ y.0, y.1)

    put_is : (out : Result (A × List ℕ) (Stop Kind)) (q : Reader Kind (List A)) → put_both (read_both out q) ≡ read_put out q
    put_is (Ok x) q = by_second x.0 (q x.1)
      where
        by_second : (a : A) (second : Result (List A × List ℕ) (Stop Kind)) → put_both (second >>= λ y. Ok ((a, y.0), y.1)) ≡ second >>= λ y. Ok (a ∷ y.0, y.1)
        by_second a (Ok y) = refl
        by_second a (Err e) = refl
    put_is (Err e) q = refl

    member_outcome : (out : Result (A × List ℕ) (Stop Kind)) (q : Reader Kind (List A)) → Covers faults text K (ahead r more) → Outcome faults r more text out → ((x : A × List ℕ) → IsRead faults r more text x.0 x.1 → Outcome faults (many r) (λ _. K) x.1 (q x.1)) → Outcome faults (many r) (λ _. K) text (read_put out q)
    member_outcome out q c h i =
        let both = sequence_outcome faults r (λ _. many r) (λ _. K) (λ _. q) text out h i in
        let P : Result (List A × List ℕ) (Stop Kind) → Type 0 = Outcome faults (many r) (λ _. K) text in
        subst P (put_is out q) (carried_same faults (carries_more c) (put_both (read_both out q)) (valued_outcome faults put (sequence r (λ _. many r)) (λ _. K) text (read_both out q) both))

module _ {Kind : Type 0} where
  -- The test shows whether one more member follows: then nothing of what follows the members is
  -- there, else no member is.
  pub record Repeats {A : Type 0} (faults : FaultRanking Kind) (r : Rule Kind A) (K : Rest Kind) (test : List ℕ → Bool) : Type 0 where
    pub at_end : test [] ≡ false
    pub uses : (u : List ℕ) (a : A) → r.Spells u a → 0 < length u
    pub goes_on : (text : List ℕ) → test text ≡ true → Covers faults text K (ahead r (more r K))
    pub stops : (text : List ℕ) → test text ≡ false → Covers faults text (ahead r (more r K)) K

  module _ {A : Type 0} (faults : FaultRanking Kind) (r : Rule Kind A) (K : Rest Kind) (test : List ℕ → Bool) (p : Reader Kind A) (h : Repeats faults r K test) (exact : Exact faults r (more r K) p) where
    shorter : (text left : List ℕ) (a : A) (n : ℕ) → IsRead faults r (more r K) text a left → length text ≤ suc n → length left ≤ n
    shorter text left a n i le = omega (arith, h.uses i.used a i.spelled, ap length i.joined, length-append i.used left)

    many_by : (n : ℕ) (text : List ℕ) (b : Bool) → test text ≡ b → ((x : A × List ℕ) → IsRead faults r (more r K) text x.0 x.1 → Outcome faults (many r) (λ _. K) x.1 (read_at_most test p n x.1)) → Outcome faults (many r) (λ _. K) text (cond b (p text >>= λ x. read_at_most test p n x.1 >>= λ y. Ok (x.0 ∷ y.0, y.1)) (Ok ([], text)))
    many_by n text true e others = member_outcome r K faults text (p text) (read_at_most test p n) (h.goes_on text e) (exact.by text) others
    many_by n text false e others = stop_outcome r K faults text (h.stops text e)

    many_outcome : (n : ℕ) (text : List ℕ) → length text ≤ n → Outcome faults (many r) (λ _. K) text (read_at_most test p n text)
    many_outcome zero text le =
        let e : text ≡ [] = nil_from_length text (omega arith) in
        stop_outcome r K faults text (h.stops text (ap test e ∙ h.at_end))
    many_outcome (suc n) text le = many_by n text (test text) refl (λ x i. many_outcome n x.1 (shorter text x.1 x.0 n i le))

module _ {Kind : Type 0} where
  pub heads_many : {A : Type 0} {P : ℕ → Type 0} {r : Rule Kind A} {K : Rest Kind} → Starts P r → Heads P K → Heads P (ahead (many r) (λ _. K))
  heads_many {A} {P} {r} {K} h i =
      let g : Heads P (ahead r (more r K)) = heads_starts h in
      record {
        meets = λ e c x m. ⊎_elim (λ l. i.meets e c x l) (λ l. g.meets e c x l) (many_meets r K e (c ∷ x) m);
        whole = λ c x m. ⊎_elim (λ l. i.whole c x l) (λ l. g.whole c x l) (many_whole r K (c ∷ x) m);
        none = λ k b m. ⊎_elim (λ l. i.none k b l) (λ l. g.none k b l) (many_meets r K (Mark k b) [] m);
      }

module _ {Kind : Type 0} {faults : FaultRanking Kind} where
  pub exact_many : {A : Type 0} {r : Rule Kind A} {K : Rest Kind} {test : List ℕ → Bool} {p : Reader Kind A} → Repeats faults r K test → Exact faults r (more r K) p → Exact faults (many r) (λ _. K) (read_many test p)
  exact_many {A} {r} {K} {test} {p} h exact = record { by = λ text. many_outcome faults r K test p h exact (length (encode_utf8_all text)) text (length-le-encodes text) }
