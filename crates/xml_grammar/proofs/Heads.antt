-- The first characters of a rule, or of what may follow it.
use Rattle.std.proofs.Common.{◌≡◌, ℕ, ◌<◌, Bool, true, false, List, [], ◌∷◌, ◌++◌, length, ◌⊎◌, inl, inr, ⊎_elim, refl, sym, ap, subst, ◌∙◌, arith}
use Rattle.std.specs.Prelude.{Some}
use Rattle.xml_grammar.specs.Digits.{Digits}
use Rattle.xml_grammar.specs.Rules.{Event, Begin, Mark, Rule, Split, empty_text, one_char, word, AllPass, char_run, number, sequence, either, map_rule, with_length, atomic, with_value_marks, optional}
use Rattle.xml_grammar.specs.ParseResults.{FaultRanking}
use Rattle.xml_grammar.proofs.Exact.{Rest, ahead, sequence_meets, sequence_whole}
use Rattle.xml_grammar.proofs.Carry.{Idle, Covers, valued_meets, valued_whole, either_meets, either_whole}

-- not of the class
abbrev pub Not : (ℕ → Bool) → ℕ → Type 0
Not p c = p c ≡ false

-- if the whole is empty, so is its first part, and so is the second
pub empty_front : (front back : List ℕ) → [] ≡ front ++ back → front ≡ []
empty_front [] back j = refl
empty_front (c ∷ cs) back j = absurd cc

pub empty_back : (front back : List ℕ) → [] ≡ front ++ back → back ≡ []
empty_back [] back j = sym j
empty_back (c ∷ cs) back j = absurd cc

-- the head of a text in two parts is that of the first, or of the second where the first is empty
pub head_of : (P : ℕ → Type 0) (c : ℕ) (x front back : List ℕ) → c ∷ x ≡ front ++ back → ((f : ℕ) (fs : List ℕ) → front ≡ f ∷ fs → P f) → (front ≡ [] → (b : ℕ) (bs : List ℕ) → back ≡ b ∷ bs → P b) → P c
head_of P c x [] back j f g = g refl c x (sym j)
head_of P c x (d ∷ front) back j f g = subst P (let same : d ≡ c = cc in same) (f d front refl)

module _ {Kind : Type 0} where
  -- A nonempty text there begins with such a character, and the empty text has no mark.
  pub record Heads (P : ℕ → Type 0) (J : Rest Kind) : Type 0 where
    pub meets : (e : Event Kind) (c : ℕ) (x : List ℕ) → J.Meets e (c ∷ x) → P c
    pub whole : (c : ℕ) (x : List ℕ) → J.Whole (c ∷ x) → P c
    pub none : (k : Kind) (b : ℕ) → J.Meets (Mark k b) [] → ⊥

  -- Something has to follow.
  pub record Follows (J : Rest Kind) : Type 0 where
    pub whole : J.Whole [] → ⊥

  -- The rule doesn't spell the empty text, and each of its texts begins with such a character.
  pub record Starts {A : Type 0} (P : ℕ → Type 0) (r : Rule Kind A) : Type 0 where
    pub meets : (e : Event Kind) (c : ℕ) (x : List ℕ) → r.Meets e (c ∷ x) → P c
    pub spells : (c : ℕ) (x : List ℕ) (a : A) → r.Spells (c ∷ x) a → P c
    pub none : (k : Kind) (b : ℕ) → r.Meets (Mark k b) [] → ⊥
    pub some : (a : A) → r.Spells [] a → ⊥

  pub heads_weaker : {P Q : ℕ → Type 0} {J : Rest Kind} → ((c : ℕ) → P c → Q c) → Heads P J → Heads Q J
  heads_weaker f h = record { meets = λ e c x m. f c (h.meets e c x m); whole = λ c x m. f c (h.whole c x m); none = h.none }

  pub starts_weaker : {A : Type 0} {P Q : ℕ → Type 0} {r : Rule Kind A} → ((c : ℕ) → P c → Q c) → Starts P r → Starts Q r
  starts_weaker f h = record { meets = λ e c x m. f c (h.meets e c x m); spells = λ c x a m. f c (h.spells c x a m); none = h.none; some = h.some }

  -- Texts of the rule aren't empty.
  pub uses : {A : Type 0} {P : ℕ → Type 0} {r : Rule Kind A} → Starts P r → (u : List ℕ) (a : A) → r.Spells u a → 0 < length u
  uses h [] a m = absurd (h.some a m)
  uses h (c ∷ u) a m = omega arith

  module _ {A : Type 0} {P : ℕ → Type 0} {r : Rule Kind A} {K : A → Rest Kind} (h : Starts P r) where
    pub heads_starts : Heads P (ahead r K)
    heads_starts = record {
      meets = λ e c x m. ⊎_elim (λ l. h.meets e c x l) (λ l. in_front c x l.0 l.1.front l.1.back l.1.joined l.1.front_is) m;
      whole = λ c x m. in_front c x m.0 m.1.front m.1.back m.1.joined m.1.front_is;
      none = λ k b m. ⊎_elim (λ l. h.none k b l) (λ l. h.some l.0 (let P : List ℕ → Type 0 = λ z. r.Spells z l.0 in subst P (empty_front l.1.front l.1.back l.1.joined) l.1.front_is)) m;
    }
      where
        in_front : (c : ℕ) (x : List ℕ) (a : A) (front back : List ℕ) → c ∷ x ≡ front ++ back → r.Spells front a → P c
        in_front c x a front back j m = head_of P c x front back j
            (λ f fs e. h.spells f fs a (subst (λ (z : List ℕ). r.Spells z a) e m))
            (λ e b bs _. absurd (h.some a (subst (λ (z : List ℕ). r.Spells z a) e m)))

    pub follows_starts : Follows (ahead r K)
    follows_starts = record { whole = λ m. h.some m.0 (subst (λ (z : List ℕ). r.Spells z m.0) (empty_front m.1.front m.1.back m.1.joined) m.1.front_is) }

  -- # Rules that are never empty

  pub starts_one : {P : ℕ → Type 0} {p : ℕ → Bool} → ((c : ℕ) → p c ≡ true → P c) → Starts P (one_char p)
  starts_one {P} {p} h = record {
    meets = one_meets;
    spells = λ c x a m. subst P (let e = m.1 in let same : a ≡ c = cc in same) (h a m.0);
    none = λ k b m. m;
    some = λ a m. absurd (let e = m.1 in cc);
  }
    where
      one_meets : (e : Event Kind) (c : ℕ) (x : List ℕ) → (one_char p).Meets e (c ∷ x) → P c
      one_meets Begin c x (inl m) = absurd cc
      one_meets Begin c x (inr m) = subst P (let k = m.2 in let same : m.0 ≡ c = cc in same) (h m.0 m.1)
      one_meets (Mark k b) c x m = elim m [ ]

  pub starts_word : {P : ℕ → Type 0} {d : ℕ} {ds : List ℕ} → P d → Starts P (word (d ∷ ds))
  starts_word {P} {d} {ds} h = record {
    meets = word_meets;
    spells = λ c x a m. subst P (let same : d ≡ c = cc in same) h;
    none = λ k b m. m;
    some = λ a m. absurd cc;
  }
    where
      word_meets : (e : Event Kind) (c : ℕ) (x : List ℕ) → (word (d ∷ ds)).Meets e (c ∷ x) → P c
      word_meets Begin c x m = subst P (let k = m.1 in let same : d ≡ c = cc in same) h
      word_meets (Mark k b) c x m = elim m [ ]

  pub starts_number : {P : ℕ → Type 0} (d : Digits) (most : ℕ) (p : ℕ → Bool) → ((c : ℕ) → d.is_digit c ≡ true → P c) → Starts P (number d most p)
  starts_number {P} d most p h = record {
    meets = number_meets;
    spells = λ c x a m. h c m.0.0;
    none = λ k b m. m;
    some = λ a m. absurd (omega (arith, m.1));
  }
    where
      number_meets : (e : Event Kind) (c : ℕ) (x : List ℕ) → (number d most p).Meets e (c ∷ x) → P c
      number_meets Begin c x m = h c m.0
      number_meets (Mark k b) c x m = elim m [ ]

  pub starts_sequence : {A B : Type 0} {P : ℕ → Type 0} {r : Rule Kind A} (s : A → Rule Kind B) → Starts P r → Starts P (sequence r s)
  starts_sequence {A} {B} {P} {r} s h = record {
    meets = λ e c x m. ⊎_elim (λ l. h.meets e c x l) (λ l. in_front c x l.0 l.1.front l.1.back l.1.joined l.1.front_is) m;
    spells = λ c x a m. in_front c x a.0 m.front m.back m.joined m.front_is;
    none = λ k b m. ⊎_elim (λ l. h.none k b l) (λ l. nothing l.0 l.1.front l.1.back l.1.joined l.1.front_is) m;
    some = λ a m. nothing a.0 m.front m.back m.joined m.front_is;
  }
    where
      nothing : (a : A) (front back : List ℕ) → [] ≡ front ++ back → r.Spells front a → ⊥
      nothing a front back j m = h.some a (subst (λ (z : List ℕ). r.Spells z a) (empty_front front back j) m)

      in_front : (c : ℕ) (x : List ℕ) (a : A) (front back : List ℕ) → c ∷ x ≡ front ++ back → r.Spells front a → P c
      in_front c x a front back j m = head_of P c x front back j
          (λ f fs e. h.spells f fs a (subst (λ (z : List ℕ). r.Spells z a) e m))
          (λ e b bs _. absurd (h.some a (subst (λ (z : List ℕ). r.Spells z a) e m)))

  pub starts_either : {A : Type 0} {P : ℕ → Type 0} {r s : Rule Kind A} → Starts P r → Starts P s → Starts P (either r s)
  starts_either h i = record {
    meets = λ e c x m. ⊎_elim (λ l. h.meets e c x l) (λ l. i.meets e c x l) m;
    spells = λ c x a m. ⊎_elim (λ l. h.spells c x a l) (λ l. i.spells c x a l) m;
    none = λ k b m. ⊎_elim (λ l. h.none k b l) (λ l. i.none k b l) m;
    some = λ a m. ⊎_elim (λ l. h.some a l) (λ l. i.some a l) m;
  }

  pub starts_valued : {A B : Type 0} {P : ℕ → Type 0} {r : Rule Kind A} (f : A → B) → Starts P r → Starts P (map_rule f r)
  starts_valued f h = record { meets = h.meets; spells = λ c x a m. h.spells c x m.0 m.1; none = h.none; some = λ a m. h.some m.0 m.1 }

  pub starts_sized : {A : Type 0} {P : ℕ → Type 0} {r : Rule Kind A} → Starts P r → Starts P (with_length r)
  starts_sized h = record { meets = h.meets; spells = λ c x a m. h.spells c x a.0 m.0; none = h.none; some = λ a m. h.some a.0 m.0 }

  pub starts_atomic : {A : Type 0} {P : ℕ → Type 0} {r : Rule Kind A} → Starts P r → Starts P (atomic r)
  starts_atomic {A} {P} {r} h = record { meets = atomic_meets; spells = h.spells; none = λ k b m. m; some = h.some }
    where
      atomic_meets : (e : Event Kind) (c : ℕ) (x : List ℕ) → (atomic r).Meets e (c ∷ x) → P c
      atomic_meets Begin c x (inl m) = absurd cc
      atomic_meets Begin c x (inr m) = h.spells c x m.0 m.1
      atomic_meets (Mark k b) c x m = elim m [ ]

  pub starts_judged : {A : Type 0} {P : ℕ → Type 0} {r : Rule Kind A} (Says : A → Kind → ℕ → Type 0) → Starts P r → Starts P (with_value_marks Says r)
  starts_judged {A} {P} {r} Says h = record { meets = judged_meets; spells = h.spells; none = λ k b m. ⊎_elim (λ l. h.some l.0 l.1) (λ l. h.none k b l) m; some = h.some }
    where
      judged_meets : (e : Event Kind) (c : ℕ) (x : List ℕ) → (with_value_marks Says r).Meets e (c ∷ x) → P c
      judged_meets Begin c x m = h.meets Begin c x m
      judged_meets (Mark k b) c x (inl m) = h.spells c x m.0 m.1
      judged_meets (Mark k b) c x (inr m) = h.meets (Mark k b) c x m

  -- # Rules that may be empty

  pub heads_run : {P : ℕ → Type 0} {p : ℕ → Bool} {K : List ℕ → Rest Kind} → ((c : ℕ) → p c ≡ true → P c) → ((cs : List ℕ) → Heads P (K cs)) → Heads P (ahead (char_run p) K)
  heads_run {P} {p} {K} h k = record {
    meets = run_meets;
    whole = λ c x m. head_of P c x m.1.front m.1.back m.1.joined (λ f fs e. in_front m.1.front m.1.front_is.0 f fs e) (λ _ b bs e. (k m.0).whole b bs (subst (K m.0).Whole e m.1.back_is));
    none = λ q b m. ⊎_elim (λ l. l) (λ z. (k z.0).none q b (subst ((K z.0).Meets (Mark q b)) (empty_back z.1.front z.1.back z.1.joined) z.1.back_is)) m;
  }
    where
      in_front : (front : List ℕ) → AllPass p front → (f : ℕ) (fs : List ℕ) → front ≡ f ∷ fs → P f
      in_front front a f fs e = let b : AllPass p (f ∷ fs) = subst (AllPass p) e a in h f b.0

      run_meets : (e : Event Kind) (c : ℕ) (x : List ℕ) → (ahead (char_run p) K).Meets e (c ∷ x) → P c
      run_meets Begin c x (inl m) = h c m.0
      run_meets (Mark q b) c x (inl m) = elim m [ ]
      run_meets e c x (inr m) = head_of P c x m.1.front m.1.back m.1.joined (λ f fs j. in_front m.1.front m.1.front_is.0 f fs j) (λ _ b bs j. (k m.0).meets e b bs (subst (λ (z : List ℕ). (K m.0).Meets e z) j m.1.back_is))

  pub heads_empty : {A : Type 0} {P : ℕ → Type 0} {value : A} {K : A → Rest Kind} → Heads P (K value) → Heads P (ahead (empty_text value) K)
  heads_empty {A} {P} {value} {K} h = record {
    meets = empty_meets;
    whole = λ c x m. h.whole c x (whole_at (c ∷ x) m);
    none = λ k b m. ⊎_elim (λ l. l) (λ l. h.none k b (meets_at (Mark k b) [] l)) m;
  }
    where
      meets_at : (e : Event Kind) (v : List ℕ) → (a : A) × Split v (λ u. (u ≡ []) × (a ≡ value)) (λ x. (K a).Meets e x) → (K value).Meets e v
      meets_at e v m = subst (λ (z : List ℕ). (K value).Meets e z) (sym (m.1.joined ∙ ap (λ (z : List ℕ). z ++ m.1.back) m.1.front_is.0)) (subst (λ (a : A). (K a).Meets e m.1.back) m.1.front_is.1 m.1.back_is)

      whole_at : (v : List ℕ) → (a : A) × Split v (λ u. (u ≡ []) × (a ≡ value)) (λ x. (K a).Whole x) → (K value).Whole v
      whole_at v m = subst (K value).Whole (sym (m.1.joined ∙ ap (λ (z : List ℕ). z ++ m.1.back) m.1.front_is.0)) (subst (λ (a : A). (K a).Whole m.1.back) m.1.front_is.1 m.1.back_is)

      empty_meets : (e : Event Kind) (c : ℕ) (x : List ℕ) → (ahead (empty_text value) K).Meets e (c ∷ x) → P c
      empty_meets Begin c x (inl m) = absurd cc
      empty_meets (Mark k b) c x (inl m) = elim m [ ]
      empty_meets e c x (inr m) = h.meets e c x (meets_at e (c ∷ x) m)

  pub heads_sequence : {A B : Type 0} {P : ℕ → Type 0} {r : Rule Kind A} {s : A → Rule Kind B} {K : A × B → Rest Kind} → Heads P (ahead r (λ a. ahead (s a) (λ b. K (a, b)))) → Heads P (ahead (sequence r s) K)
  heads_sequence {A} {B} {P} {r} {s} {K} h = record {
    meets = λ e c x m. h.meets e c x (sequence_meets r s K e (c ∷ x) m);
    whole = λ c x m. h.whole c x (sequence_whole r s K (c ∷ x) m);
    none = λ k b m. h.none k b (sequence_meets r s K (Mark k b) [] m);
  }

  pub heads_valued : {A B : Type 0} {P : ℕ → Type 0} {r : Rule Kind A} {K : B → Rest Kind} (f : A → B) → Heads P (ahead r (λ a. K (f a))) → Heads P (ahead (map_rule f r) K)
  heads_valued {A} {B} {P} {r} {K} f h = record {
    meets = λ e c x m. h.meets e c x (valued_meets f r K e (c ∷ x) m);
    whole = λ c x m. h.whole c x (valued_whole f r K (c ∷ x) m);
    none = λ k b m. h.none k b (valued_meets f r K (Mark k b) [] m);
  }

  pub heads_either : {A : Type 0} {P : ℕ → Type 0} {r s : Rule Kind A} {K : A → Rest Kind} → Heads P (ahead r K) → Heads P (ahead s K) → Heads P (ahead (either r s) K)
  heads_either {A} {P} {r} {s} {K} h i = record {
    meets = λ e c x m. ⊎_elim (λ l. h.meets e c x l) (λ l. i.meets e c x l) (either_meets r s K e (c ∷ x) m);
    whole = λ c x m. ⊎_elim (λ l. h.whole c x l) (λ l. i.whole c x l) (either_whole r s K (c ∷ x) m);
    none = λ k b m. ⊎_elim (λ l. h.none k b l) (λ l. i.none k b l) (either_meets r s K (Mark k b) [] m);
  }

  pub heads_optional : {A : Type 0} {P : ℕ → Type 0} {r : Rule Kind A} {K : Rest Kind} → Starts P r → Heads P K → Heads P (ahead (optional r) (λ _. K))
  heads_optional h k = heads_either (heads_starts (starts_valued Some h)) (heads_empty k)

-- # Rules that cover others by the first character

module _ {Kind : Type 0} {faults : FaultRanking Kind} where
  -- Where the text begins with no such character, nothing that begins so is there.
  pub none_covers : {P : ℕ → Type 0} {J K : Rest Kind} {text : List ℕ} → Heads P J → Follows J → ((c : ℕ) (x : List ℕ) → text ≡ c ∷ x → P c → ⊥) → Covers faults text J K
  none_covers {P} {J} {K} {text} h some none = record { events = no_events; whole = λ m. no_whole text refl m }
    where
      no_events : (e : Event Kind) (v w : List ℕ) → text ≡ v ++ w → J.Meets e v → K.Meets e v ⊎ Idle faults e v
      no_events Begin [] w j m = inr refl
      no_events (Mark k b) [] w j m = absurd (h.none k b m)
      no_events e (c ∷ v) w j m = absurd (none c (v ++ w) j (h.meets e c v m))

      no_whole : (t : List ℕ) → text ≡ t → J.Whole t → ⊥
      no_whole [] j m = some.whole m
      no_whole (c ∷ x) j m = none c x j (h.whole c x m)

  -- The same for a rule: where the text begins with no such character, no text of it is there.
  pub starts_covers : {A : Type 0} {P : ℕ → Type 0} {r : Rule Kind A} {J : A → Rest Kind} {K : Rest Kind} {text : List ℕ} → Starts P r → ((c : ℕ) (x : List ℕ) → text ≡ c ∷ x → P c → ⊥) → Covers faults text (ahead r J) K
  starts_covers h none = none_covers (heads_starts h) (follows_starts h) none
