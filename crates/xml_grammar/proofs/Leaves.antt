-- Rules whose whole texts depend on the text alone, whatever follows: one character, a word,
-- nothing at all.
use Rattle.std.proofs.Common.{◌≡◌, ℕ, ◌≤◌, Bool, true, false, cond, List, [], ◌∷◌, ◌++◌, length, Result, Ok, Err, ◌⊎◌, inl, inr, ⊎_elim, refl, sym, ap, subst, ◌∙◌, arith, eqb}
use Rattle.std.proofs.lemmas.Bool.{eqb-true, eq-eqb}
use Rattle.std.proofs.lemmas.List.{length-append}
use Rattle.xml_grammar.specs.Rules.{Event, Begin, Mark, Rule, BeginsOnly, empty_text, one_char, word}
use Rattle.xml_grammar.specs.TextReading.{Stop, Syntax, Faulty, read_one_char, read_word}
use Rattle.xml_grammar.specs.readers.RuleReaders.{read_empty}
use Rattle.xml_grammar.specs.ParseResults.{FaultRanking}
use Rattle.xml_grammar.proofs.Exact.{Rest, ahead, regroup, Passed, Later, IsRead, IsStopped, Outcome, Exact}

-- a rule without marks
abbrev pub leaf : {Kind A : Type 0} → (List ℕ → A → Type 0) → (List ℕ → Type 0) → Rule Kind A
leaf S P = record { Spells = S; Meets = BeginsOnly P }

module _ {Kind : Type 0} (faults : FaultRanking Kind) where
  module _ {A : Type 0} (S : List ℕ → A → Type 0) (P : List ℕ → Type 0) (K : A → Rest Kind) (text used left : List ℕ) (joined : text ≡ used ++ left) (longest : (v w : List ℕ) → text ≡ v ++ w → P v → length v ≤ length used) where
    module _ (a : A) (unique : (v w : List ℕ) (b : A) → text ≡ v ++ w → S v b → (v ≡ used) × (b ≡ a)) where
      settled_read : (e : Event Kind) (v w : List ℕ) → text ≡ v ++ w → (ahead (leaf S P) K).Meets e v → Passed faults e v used ⊎ Later faults (K a) e v used
      settled_read Begin v w j (inl h) = inl (longest v w j h)
      settled_read (Mark k b) v w j (inl h) = elim h [ ]
      settled_read e v w j (inr h) =
          let o = unique h.1.front (h.1.back ++ w) h.0 (regroup w h.1.front h.1.back j h.1.joined) h.1.front_is in
          inr (h.1.back, h.1.joined ∙ ap (λ (z : List ℕ). z ++ h.1.back) o.0, subst (λ (z : A). (K z).Meets e h.1.back) o.1 h.1.back_is)

      pub leaf_read : S used a → IsRead faults (leaf S P) K text a left
      leaf_read sp = record { used = used; joined = joined; spelled = sp; settled = settled_read; unique = λ v w b j h _. unique v w b j h }

    module _ (none : (v w : List ℕ) (b : A) → text ≡ v ++ w → S v b → ⊥) where
      settled_stopped : (e : Event Kind) (v w : List ℕ) → text ≡ v ++ w → (ahead (leaf S P) K).Meets e v → Passed faults e v used
      settled_stopped Begin v w j (inl h) = longest v w j h
      settled_stopped (Mark k b) v w j (inl h) = elim h [ ]
      settled_stopped e v w j (inr h) = absurd (none h.1.front (h.1.back ++ w) h.0 (regroup w h.1.front h.1.back j h.1.joined) h.1.front_is)

      pub leaf_stopped : P used → IsStopped faults (leaf S P) K text left
      leaf_stopped p = record { used = used; joined = joined; begun = p; settled = settled_stopped; none = λ v w b j h _. none v w b j h }

  -- the empty text
  empty_outcome : {A : Type 0} (value : A) (K : A → Rest Kind) (text : List ℕ) → IsRead faults (empty_text value) K text value text
  empty_outcome {A} value K text = leaf_read (λ u (b : A). (u ≡ []) × (b ≡ value)) (λ u. u ≡ []) K text [] text refl (λ v w j m. omega (arith, ap length m)) value (λ v w b j m. m) (refl, refl)

  -- one character
  abbrev OneIs : (ℕ → Bool) → List ℕ → ℕ → Type 0
  OneIs p text d = (p d ≡ true) × (text ≡ d ∷ [])

  abbrev OneBegins : (ℕ → Bool) → List ℕ → Type 0
  OneBegins p text = (text ≡ []) ⊎ ((d : ℕ) × (p d ≡ true) × (text ≡ d ∷ []))

  same_head : (c d : ℕ) (rest v w : List ℕ) → c ∷ rest ≡ v ++ w → v ≡ d ∷ [] → d ≡ c
  same_head c d rest v w j m = let e : c ∷ rest ≡ d ∷ w = j ∙ ap (λ (z : List ℕ). z ++ w) m in cc

  other_head : (p : ℕ → Bool) (c d : ℕ) (rest v w : List ℕ) → p c ≡ false → p d ≡ true → c ∷ rest ≡ v ++ w → v ≡ d ∷ [] → ⊥
  other_head p c d rest v w f t j m = let g : p d ≡ p c = ap p (same_head c d rest v w j m) in absurd cc

  one_by : (p : ℕ → Bool) (K : ℕ → Rest Kind) (c : ℕ) (rest : List ℕ) (b : Bool) → p c ≡ b → Outcome faults (one_char p) K (c ∷ rest) (cond b (Ok (c, rest)) (Err (Syntax (c ∷ rest))))
  one_by p K c rest true h = leaf_read (OneIs p) (OneBegins p) K (c ∷ rest) (c ∷ []) rest refl
      (λ v w j m. ⊎_elim (λ e. omega (arith, ap length e)) (λ x. omega (arith, ap length x.2)) m)
      c
      (λ v w d j m. let e = same_head c d rest v w j m.1 in (m.1 ∙ ap (λ (z : ℕ). z ∷ []) e, e))
      (h, refl)
  one_by p K c rest false h = leaf_stopped (OneIs p) (OneBegins p) K (c ∷ rest) [] (c ∷ rest) refl
      (λ v w j m. ⊎_elim (λ e. omega (arith, ap length e)) (λ x. absurd (other_head p c x.0 rest v w h x.1 j x.2)) m)
      (λ v w d j m. other_head p c d rest v w h m.0 j m.1)
      (inl refl)

  one_outcome : (p : ℕ → Bool) (K : ℕ → Rest Kind) (text : List ℕ) → Outcome faults (one_char p) K text (read_one_char p text)
  one_outcome p K [] = leaf_stopped (OneIs p) (OneBegins p) K [] [] [] refl
      (λ v w j m. omega (arith, ap length j, length-append v w))
      (λ v w d j m. absurd (omega (arith, ap length j, length-append v w, ap length m.1)))
      (inl refl)
  one_outcome p K (c ∷ rest) = one_by p K c rest (p c) refl

  -- a fixed word
  abbrev WordFront : List ℕ → List ℕ → Type 0
  WordFront w text = (rest : List ℕ) × (w ≡ text ++ rest)

  record WordStops (w text left : List ℕ) : Type 0 where
    used : List ℕ
    joined : text ≡ used ++ left
    begun : WordFront w used
    longest : (v t : List ℕ) → text ≡ v ++ t → WordFront w v → length v ≤ length used
    none : (t : List ℕ) → text ≡ w ++ t → ⊥

  abbrev WordOutcome : List ℕ → List ℕ → Result (Unit {0} × List ℕ) (Stop Kind) → Type 0
  WordOutcome w text (Ok x) = text ≡ w ++ x.1
  WordOutcome w text (Err (Syntax left)) = WordStops w text left
  WordOutcome w text (Err (Faulty k left)) = ⊥

  longest_under : (c d : ℕ) (cs rest used : List ℕ) → ((v t : List ℕ) → rest ≡ v ++ t → WordFront cs v → length v ≤ length used) → (v t : List ℕ) → d ∷ rest ≡ v ++ t → WordFront (c ∷ cs) v → length v ≤ length (d ∷ used)
  longest_under c d cs rest used f [] t j m = omega arith
  longest_under c d cs rest used f (x ∷ v) t j m =
      let a : rest ≡ v ++ t = cc in
      let b : cs ≡ v ++ m.0 = let e = m.1 in cc in
      omega (arith, f v t a (m.0, b))

  longest_none : (c d : ℕ) (cs rest v t : List ℕ) → eqb c d ≡ false → d ∷ rest ≡ v ++ t → WordFront (c ∷ cs) v → length v ≤ 0
  longest_none c d cs rest [] t f j m = omega arith
  longest_none c d cs rest (x ∷ v) t f j m =
      let e = m.1 in let a : c ≡ d = cc in
      absurd (let g : eqb c d ≡ true = eq-eqb c d a in cc)

  word_step : (c d : ℕ) (cs rest : List ℕ) (out : Result (Unit {0} × List ℕ) (Stop Kind)) → d ≡ c → WordOutcome cs rest out → WordOutcome (c ∷ cs) (d ∷ rest) out
  word_step c d cs rest (Ok x) e h = cc
  word_step c d cs rest (Err (Syntax left)) e h = record {
    used = d ∷ h.used;
    joined = ap (λ (z : List ℕ). d ∷ z) h.joined;
    begun = (h.begun.0, let k = h.begun.1 in cc);
    longest = longest_under c d cs rest h.used h.longest;
    none = λ t j. h.none t (cc);
  }
  word_step c d cs rest (Err (Faulty k left)) e h = h

  word_by : (c d : ℕ) (cs rest : List ℕ) (b : Bool) (out : Result (Unit {0} × List ℕ) (Stop Kind)) → eqb c d ≡ b → WordOutcome cs rest out → WordOutcome (c ∷ cs) (d ∷ rest) (cond b out (Err (Syntax (d ∷ rest))))
  word_by c d cs rest true out e h = word_step c d cs rest out (sym (eqb-true c d e)) h
  word_by c d cs rest false out e h = record {
    used = [];
    joined = refl;
    begun = (c ∷ cs, refl);
    longest = λ v t j m. longest_none c d cs rest v t e j m;
    none = λ t j. let a : c ≡ d = cc in let g : eqb c d ≡ true = eq-eqb c d a in absurd cc;
  }

  word_read : (w text : List ℕ) → WordOutcome w text (read_word w text)
  word_read [] text = refl
  word_read (c ∷ cs) [] = record {
    used = [];
    joined = refl;
    begun = (c ∷ cs, refl);
    longest = λ v t j m. omega (arith, ap length j, length-append v t);
    none = λ t j. absurd (omega (arith, ap length j, length-append cs t));
  }
  word_read (c ∷ cs) (d ∷ rest) = word_by c d cs rest (eqb c d) (read_word cs rest) refl (word_read cs rest)

  abbrev WordIs : List ℕ → List ℕ → Unit {0} → Type 0
  WordIs w text _ = text ≡ w

  word_outcome : (w : List ℕ) (K : Unit {0} → Rest Kind) (text : List ℕ) (out : Result (Unit {0} × List ℕ) (Stop Kind)) → WordOutcome w text out → Outcome faults (word w) K text out
  word_outcome w K text (Ok x) h = leaf_read (WordIs w) (WordFront w) K text w x.1 h
      (λ v t j m. omega (arith, length-append v m.0, ap length m.1))
      tt
      (λ v t u j m. (m, refl))
      refl
  word_outcome w K text (Err (Syntax left)) h = leaf_stopped (WordIs w) (WordFront w) K text h.used left h.joined h.longest
      (λ v t u j m. h.none t (j ∙ ap (λ (z : List ℕ). z ++ t) m))
      h.begun
  word_outcome w K text (Err (Faulty k left)) h = elim h [ ]

module _ {Kind : Type 0} {faults : FaultRanking Kind} where
  pub exact_empty : {A : Type 0} {value : A} {K : A → Rest Kind} → Exact faults (empty_text value) K (read_empty value)
  exact_empty {A} {value} {K} = record { by = λ text. empty_outcome faults value K text }

  pub exact_one : {p : ℕ → Bool} {K : ℕ → Rest Kind} → Exact faults (one_char p) K (read_one_char p)
  exact_one {p} {K} = record { by = one_outcome faults p K }

  pub exact_word : {w : List ℕ} {K : Unit {0} → Rest Kind} → Exact faults (word w) K (read_word w)
  exact_word {w} {K} = record { by = λ text. word_outcome faults w K text (read_word w text) (word_read faults w text) }
