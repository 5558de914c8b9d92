-- The text before the first occurrence of a word is read exactly, whatever follows the word.
use Rattle.std.proofs.Common.{◌≡◌, ℕ, ◌<◌, Bool, true, false, cond, List, [], ◌∷◌, ◌++◌, length, drop, Result, Ok, Err, ⊎_elim, refl, sym, ap, subst, ◌∙◌, append_assoc, arith}
use Rattle.std.proofs.lemmas.List.{append_cancel_right, length-append, append-nil}
use Rattle.xml_grammar.specs.Rules.{AllPass, LacksWord, OccursOnlyAtEnd, up_to}
use Rattle.xml_grammar.specs.TextReading.{Stop, Syntax, Faulty, ◌>>=◌, starts_with_word}
use Rattle.xml_grammar.specs.readers.RuleReaders.{read_up_to}
use Rattle.xml_grammar.specs.ParseResults.{FaultRanking}
use Rattle.xml_grammar.proofs.Exact.{Rest, Outcome, Exact}
use Rattle.xml_grammar.proofs.Leaves.{leaf_read, leaf_stopped}
use Rattle.xml_grammar.proofs.Fronts.{compare, pass_back, starts_is, last_word, last_step, lacks_short, lacks_step}

module _ (Kind : Type 0) (p : ℕ → Bool) (w : List ℕ) (some : 0 < length w) (inside : AllPass p w) where
  abbrev Begins : List ℕ → Type 0
  Begins text = AllPass p text × OccursOnlyAtEnd w text

  abbrev Is : List ℕ → List ℕ → Type 0
  Is text cs = (text ≡ cs ++ w) × AllPass p text × OccursOnlyAtEnd w text

  record Found (text cs left : List ℕ) : Type 0 where
    joined : text ≡ (cs ++ w) ++ left
    begun : Begins (cs ++ w)

  record NotFound (text left : List ℕ) : Type 0 where
    used : List ℕ
    joined : text ≡ used ++ left
    pass : AllPass p used
    lacks : LacksWord w used
    stops : (c : ℕ) (rest : List ℕ) → left ≡ c ∷ rest → p c ≡ true → ⊥

  abbrev UpOutcome : List ℕ → Result (List ℕ × List ℕ) (Stop Kind) → Type 0
  UpOutcome text (Ok x) = Found text x.0 x.1
  UpOutcome text (Err (Syntax left)) = NotFound text left
  UpOutcome text (Err (Faulty k left)) = ⊥

  up_step : (c : ℕ) (cs : List ℕ) (out : Result (List ℕ × List ℕ) (Stop Kind)) → p c ≡ true → starts_with_word w (c ∷ cs) ≡ false → UpOutcome cs out → UpOutcome (c ∷ cs) (out >>= λ x. Ok (c ∷ x.0, x.1))
  up_step c cs (Ok x) e s h = record {
    joined = ap (λ (z : List ℕ). c ∷ z) h.joined;
    begun = ((e, h.begun.0), last_step w c (x.0 ++ w) x.1 (ap (λ (z : List ℕ). starts_with_word w (c ∷ z)) (sym h.joined) ∙ s) h.begun.1);
  }
  up_step c cs (Err (Syntax left)) e s h = record {
    used = c ∷ h.used;
    joined = ap (λ (z : List ℕ). c ∷ z) h.joined;
    pass = (e, h.pass);
    lacks = lacks_step w c h.used left (ap (λ (z : List ℕ). starts_with_word w (c ∷ z)) (sym h.joined) ∙ s) h.lacks;
    stops = h.stops;
  }
  up_step c cs (Err (Faulty k left)) e s h = h

  up_by : (c : ℕ) (cs : List ℕ) (at passes : Bool) (out : Result (List ℕ × List ℕ) (Stop Kind)) → starts_with_word w (c ∷ cs) ≡ at → p c ≡ passes → UpOutcome cs out → UpOutcome (c ∷ cs) (cond at (Ok ([], drop (length w) (c ∷ cs))) (cond passes (out >>= λ x. Ok (c ∷ x.0, x.1)) (Err (Syntax (c ∷ cs)))))
  up_by c cs true passes out s e h = record { joined = starts_is w (c ∷ cs) s; begun = (inside, last_word w) }
  up_by c cs false true out s e h = up_step c cs out e s h
  up_by c cs false false out s e h = record {
    used = [];
    joined = refl;
    pass = tt;
    lacks = lacks_short w [] some;
    stops = λ d rest k t. let same : d ≡ c = cc in let g : p d ≡ p c = ap p same in absurd cc;
  }

  up_read : (text : List ℕ) → UpOutcome text (read_up_to p w text)
  up_read [] = record { used = []; joined = refl; pass = tt; lacks = lacks_short w [] some; stops = λ c rest k t. absurd cc }
  up_read (c ∷ cs) = up_by c cs (starts_with_word w (c ∷ cs)) (p c) (read_up_to p w cs) refl refl (up_read cs)

  -- each beginning is a prefix of what was consumed
  past_found : (text cs left v x : List ℕ) → Found text cs left → text ≡ v ++ x → Begins v → (y : List ℕ) × (cs ++ w ≡ v ++ y)
  past_found text cs left v x h j b = ⊎_elim
      (λ k. k)
      (λ k. absurd (let e : k.c ∷ k.rest ≡ [] = b.1 cs (k.c ∷ k.rest) (k.front ∙ append_assoc cs w (k.c ∷ k.rest)) in cc))
      (compare v x (cs ++ w) left (sym j ∙ h.joined))

  past_not_found : (text left v x : List ℕ) → (h : NotFound text left) → text ≡ v ++ x → Begins v → (y : List ℕ) × (h.used ≡ v ++ y)
  past_not_found text left v x h j b = ⊎_elim
      (λ k. k)
      (λ k. absurd (h.stops k.c k.next.0 k.next.1 (pass_back p h.used (k.c ∷ k.rest) (subst (AllPass p) k.front b.0)).0))
      (compare v x h.used left (sym j ∙ h.joined))

  up_outcome : (faults : FaultRanking Kind) (K : List ℕ → Rest Kind) (text : List ℕ) (out : Result (List ℕ × List ℕ) (Stop Kind)) → UpOutcome text out → Outcome faults (up_to p w) K text out
  up_outcome faults K text (Ok x) h = leaf_read faults Is Begins K text (x.0 ++ w) x.1 h.joined
      (λ v t j m. let k = past_found text x.0 x.1 v t h j m in omega (arith, ap length k.1, length-append v k.0))
      x.0
      (λ v t b j m.
      let k = past_found text x.0 x.1 v t h j (m.1, m.2) in
      let none : k.0 ≡ [] = h.begun.1 b k.0 (k.1 ∙ ap (λ (z : List ℕ). z ++ k.0) m.0 ∙ append_assoc b w k.0) in
      let same : v ≡ x.0 ++ w = sym (k.1 ∙ ap (λ (z : List ℕ). v ++ z) none ∙ append-nil v) in
      (same, append_cancel_right b x.0 w (sym m.0 ∙ same)))
      (refl, h.begun.0, h.begun.1)
  up_outcome faults K text (Err (Syntax left)) h = leaf_stopped faults Is Begins K text h.used left h.joined
      (λ v t j m. let k = past_not_found text left v t h j m in omega (arith, ap length k.1, length-append v k.0))
      (λ v t b j m.
      let k = past_not_found text left v t h j (m.1, m.2) in
      h.lacks b k.0 (k.1 ∙ ap (λ (z : List ℕ). z ++ k.0) m.0 ∙ append_assoc b w k.0))
      (h.pass, λ u t e. absurd (h.lacks u t e))
  up_outcome faults K text (Err (Faulty k left)) h = elim h [ ]

module _ {Kind : Type 0} {faults : FaultRanking Kind} where
  -- The word is not empty, and its characters are of the class.
  pub exact_up_to : {p : ℕ → Bool} (w : List ℕ) {K : List ℕ → Rest Kind} → 0 < length w → AllPass p w → Exact faults (up_to p w) K (read_up_to p w)
  exact_up_to {p} w {K} some inside = record { by = λ text. up_outcome Kind p w some inside faults K text (read_up_to p w text) (up_read Kind p w some inside text) }
