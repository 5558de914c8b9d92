-- Led rules, whose texts begin with one word and then a character of a class: the character after
-- the word shows which rule is there.
use Rattle.std.proofs.Common.{◌≡◌, ℕ, ◌≤◌, true, false, List, [], ◌∷◌, ◌++◌, length, Result, Ok, Err, ◌⊎◌, inl, inr, ⊎_elim, refl, sym, ap, subst, ◌∙◌, append_assoc, arith}
use Rattle.std.proofs.lemmas.List.{length-append, append-nil, append_cancel_left}
use Rattle.xml_grammar.specs.Rules.{Event, Begin, Mark, Rule, word, sequence, either, map_rule, with_length, with_value_marks, with_prefix_mark, refused_word, keep_first, keep_second}
use Rattle.xml_grammar.specs.TextReading.{Stop, Syntax, Faulty, ◌>>=◌, starts_with_word}
use Rattle.xml_grammar.specs.ParseResults.{FaultRanking}
use Rattle.xml_grammar.proofs.Exact.{Rest, ahead, regroup, Passed, IsStopped, Outcome}
use Rattle.xml_grammar.proofs.Carry.{Idle, Covers}
use Rattle.xml_grammar.proofs.Fronts.{GoesOn, compare, starts_is, starts_at}
use Rattle.xml_grammar.proofs.Heads.{Starts}
use Rattle.xml_grammar.proofs.ClosedRules.{anything}

-- The text continues after the word with such a character.
pub record Past (w : List ℕ) (Q : ℕ → Type 0) (v : List ℕ) : Type 0 where
  pub next : ℕ
  pub rest : List ℕ
  pub joined : v ≡ w ++ (next ∷ rest)
  pub is : Q next

past_more : (w : List ℕ) (Q : ℕ → Type 0) (v u x : List ℕ) → v ≡ u ++ x → Past w Q u → Past w Q v
past_more w Q v u x j h = record { next = h.next; rest = h.rest ++ x; joined = regroup x w (h.next ∷ h.rest) j h.joined; is = h.is }

-- a text that continues one word with one character continues it with no other
pub next_is : {text : List ℕ} (w : List ℕ) (c : ℕ) (x : List ℕ) (d : ℕ) (y : List ℕ) → text ≡ w ++ (c ∷ x) → text ≡ w ++ (d ∷ y) → c ≡ d
next_is w c x d y j k = let e : c ∷ x ≡ d ∷ y = append_cancel_left w (c ∷ x) (d ∷ y) (sym j ∙ k) in cc

-- Tests of the word and the character after it.
pub next_true : (w : List ℕ) (d : ℕ) (text : List ℕ) → starts_with_word (w ++ (d ∷ [])) text ≡ true → (x : List ℕ) × (text ≡ w ++ (d ∷ x))
next_true w d text h = let j = starts_is (w ++ (d ∷ [])) text h in (_, j ∙ append_assoc w (d ∷ []) _)

pub next_false : (w : List ℕ) (d : ℕ) (text x : List ℕ) → starts_with_word (w ++ (d ∷ [])) text ≡ false → text ≡ w ++ (d ∷ x) → ⊥
next_false w d text x h j = let k = starts_at (w ++ (d ∷ [])) x (j ∙ sym (append_assoc w (d ∷ []) x)) in absurd cc

module _ {Kind : Type 0} where
  -- an event that is a prefix of the word, or continues it
  abbrev pub LedBy : List ℕ → (ℕ → Type 0) → Event Kind → List ℕ → Type 0
  LedBy w Q e v = ((e ≡ Begin) × (rest : List ℕ) × (w ≡ v ++ rest)) ⊎ Past w Q v

  pub record Led {A : Type 0} (w : List ℕ) (Q : ℕ → Type 0) (r : Rule Kind A) : Type 0 where
    pub fronts : (u x : List ℕ) → w ≡ u ++ x → r.Meets Begin u
    pub meets : (e : Event Kind) (v : List ℕ) → r.Meets e v → LedBy w Q e v
    pub spells : (v : List ℕ) (a : A) → r.Spells v a → Past w Q v

  pub led_weaker : {A : Type 0} {w : List ℕ} {P Q : ℕ → Type 0} {r : Rule Kind A} → ((c : ℕ) → P c → Q c) → Led w P r → Led w Q r
  led_weaker {A} {w} {P} {Q} {r} f h = record {
    fronts = h.fronts;
    meets = λ e v m. ⊎_elim (λ l. inl l) (λ l. inr (weaker v l)) (h.meets e v m);
    spells = λ v a m. weaker v (h.spells v a m);
  }
    where
      weaker : (v : List ℕ) → Past w P v → Past w Q v
      weaker v l = record { next = l.next; rest = l.rest; joined = l.joined; is = f l.next l.is }

  -- a fixed word that continues
  pub led_word : {Q : ℕ → Type 0} (w : List ℕ) (d : ℕ) (ds : List ℕ) → Q d → Led w Q (word (w ++ (d ∷ ds)))
  led_word {Q} w d ds is = record {
    fronts = λ u x j. (x ++ (d ∷ ds), ap (λ (z : List ℕ). z ++ (d ∷ ds)) j ∙ append_assoc u x (d ∷ ds));
    meets = word_meets;
    spells = λ v a m. record { next = d; rest = ds; joined = m; is = is };
  }
    where
      by_front : (v x : List ℕ) → w ++ (d ∷ ds) ≡ v ++ x → LedBy w Q Begin v
      by_front v x j = ⊎_elim
          (λ k. by_rest v x j k.0 k.1)
          (λ k. inl (refl, k.c ∷ k.rest, k.front))
          (compare w (d ∷ ds) v x j)
        where
          by_rest : (v x : List ℕ) → w ++ (d ∷ ds) ≡ v ++ x → (y : List ℕ) → v ≡ w ++ y → LedBy w Q Begin v
          by_rest v x j [] k = inl (refl, [], sym (append-nil v ∙ k ∙ append-nil w))
          by_rest v x j (c ∷ y) k =
              let e : d ∷ ds ≡ (c ∷ y) ++ x = append_cancel_left w (d ∷ ds) ((c ∷ y) ++ x) (regroup x w (c ∷ y) j k) in
              inr (record { next = c; rest = y; joined = k; is = subst Q (let same : d ≡ c = cc in same) is })

      word_meets : (e : Event Kind) (v : List ℕ) → (word (w ++ (d ∷ ds))).Meets e v → LedBy w Q e v
      word_meets Begin v m = by_front v m.0 m.1
      word_meets (Mark k b) v m = elim m [ ]

  -- a led rule, and another after it
  pub led_sequence : {A B : Type 0} {w : List ℕ} {Q : ℕ → Type 0} {r : Rule Kind A} (s : A → Rule Kind B) → Led w Q r → Led w Q (sequence r s)
  led_sequence {A} {B} {w} {Q} {r} s h = record {
    fronts = λ u x j. inl (h.fronts u x j);
    meets = λ e v m. ⊎_elim (λ l. h.meets e v l) (λ l. inr (past_more w Q v l.1.front l.1.back l.1.joined (h.spells l.1.front l.0 l.1.front_is))) m;
    spells = λ v a m. past_more w Q v m.front m.back m.joined (h.spells m.front a.0 m.front_is);
  }

  -- the word itself, and a rule after it that begins with such a character
  pub led_then : {B : Type 0} {Q : ℕ → Type 0} (w : List ℕ) {s : Rule Kind B} → Starts Q s → Led w Q (sequence (word w) (λ _. s))
  led_then {B} {Q} w {s} h = record {
    fronts = λ u x j. inl (x, j);
    meets = then_meets;
    spells = λ v a m. by_back v m.front m.back a.1 m.joined m.front_is m.back_is;
  }
    where
      by_back : (v front back : List ℕ) (b : B) → v ≡ front ++ back → front ≡ w → s.Spells back b → Past w Q v
      by_back v front [] b j f m = absurd (h.some b m)
      by_back v front (c ∷ x) b j f m = record { next = c; rest = x; joined = j ∙ ap (λ (z : List ℕ). z ++ (c ∷ x)) f; is = h.spells c x b m }

      by_event : (e : Event Kind) (v front back : List ℕ) → v ≡ front ++ back → front ≡ w → s.Meets e back → LedBy w Q e v
      by_event Begin v front [] j f m = inl (refl, [], sym (append-nil v ∙ j ∙ append-nil front ∙ f))
      by_event (Mark k b) v front [] j f m = absurd (h.none k b m)
      by_event e v front (c ∷ x) j f m = inr (record { next = c; rest = x; joined = j ∙ ap (λ (z : List ℕ). z ++ (c ∷ x)) f; is = h.meets e c x m })

      then_meets : (e : Event Kind) (v : List ℕ) → (sequence (word w) (λ _. s)).Meets e v → LedBy w Q e v
      then_meets Begin v (inl m) = inl (refl, m.0, m.1)
      then_meets (Mark k b) v (inl m) = elim m [ ]
      then_meets e v (inr m) = by_event e v m.1.front m.1.back m.1.joined m.1.front_is m.1.back_is

  pub led_either : {A : Type 0} {w : List ℕ} {Q : ℕ → Type 0} {r s : Rule Kind A} → Led w Q r → Led w Q s → Led w Q (either r s)
  led_either h i = record {
    fronts = λ u x j. inl (h.fronts u x j);
    meets = λ e v m. ⊎_elim (λ l. h.meets e v l) (λ l. i.meets e v l) m;
    spells = λ v a m. ⊎_elim (λ l. h.spells v a l) (λ l. i.spells v a l) m;
  }

  pub led_valued : {A B : Type 0} {w : List ℕ} {Q : ℕ → Type 0} {r : Rule Kind A} (f : A → B) → Led w Q r → Led w Q (map_rule f r)
  led_valued f h = record { fronts = h.fronts; meets = h.meets; spells = λ v a m. h.spells v m.0 m.1 }

  pub led_sized : {A : Type 0} {w : List ℕ} {Q : ℕ → Type 0} {r : Rule Kind A} → Led w Q r → Led w Q (with_length r)
  led_sized h = record { fronts = h.fronts; meets = h.meets; spells = λ v a m. h.spells v a.0 m.0 }

  pub led_judged : {A : Type 0} {w : List ℕ} {Q : ℕ → Type 0} {r : Rule Kind A} (Says : A → Kind → ℕ → Type 0) → Led w Q r → Led w Q (with_value_marks Says r)
  led_judged {A} {w} {Q} {r} Says h = record { fronts = h.fronts; meets = judged_meets; spells = h.spells }
    where
      judged_meets : (e : Event Kind) (v : List ℕ) → (with_value_marks Says r).Meets e v → LedBy w Q e v
      judged_meets Begin v m = h.meets Begin v m
      judged_meets (Mark k b) v (inl m) = inr (h.spells v m.0 m.1)
      judged_meets (Mark k b) v (inr m) = h.meets (Mark k b) v m

  pub led_marked : {A : Type 0} {w : List ℕ} {Q : ℕ → Type 0} {r : Rule Kind A} (kind : Kind) (Front : List ℕ → Type 0) → ((v : List ℕ) → Front v → Past w Q v) → Led w Q r → Led w Q (with_prefix_mark kind Front r)
  led_marked {A} {w} {Q} {r} kind Front f h = record { fronts = h.fronts; meets = marked_meets; spells = h.spells }
    where
      marked_meets : (e : Event Kind) (v : List ℕ) → (with_prefix_mark kind Front r).Meets e v → LedBy w Q e v
      marked_meets Begin v m = h.meets Begin v m
      marked_meets (Mark k b) v (inl m) = inr (f v m.2)
      marked_meets (Mark k b) v (inr m) = h.meets (Mark k b) v m

  pub led_trap : {A : Type 0} {Q : ℕ → Type 0} (kind : Kind) (w : List ℕ) (d : ℕ) (rest : List ℕ) → Q d → let r : Rule Kind A = refused_word kind w (d ∷ rest) in Led w Q r
  led_trap {A} {Q} kind w d rest is = record { fronts = λ u x j. (x, j); meets = trap_meets; spells = λ v a m. absurd m }
    where
      trap_meets : (e : Event Kind) (v : List ℕ) → let r : Rule Kind A = refused_word kind w (d ∷ rest) in r.Meets e v → LedBy w Q e v
      trap_meets Begin v m = inl (refl, m.0, m.1)
      trap_meets (Mark k b) v m = inr (record { next = d; rest = rest; joined = m.2; is = is })

  pub led_before : {A B : Type 0} {w : List ℕ} {Q : ℕ → Type 0} {r : Rule Kind A} (s : Rule Kind B) → Led w Q r → Led w Q (keep_first r s)
  led_before s h = led_valued (λ x. x.0) (led_sequence (λ _. s) h)

  pub led_behind : {A B : Type 0} {w : List ℕ} {Q : ℕ → Type 0} {r : Rule Kind A} (s : Rule Kind B) → Led w Q r → Led w Q (keep_second r s)
  led_behind s h = led_valued (λ x. x.1) (led_sequence (λ _. s) h)

  -- A rule that is led by a longer word is led by each shorter beginning of it.
  pub led_shorter : {A : Type 0} {Q : ℕ → Type 0} {r : Rule Kind A} (w : List ℕ) (d : ℕ) → Led (w ++ (d ∷ [])) Q r → Led w (λ c. c ≡ d) r
  led_shorter {A} {Q} {r} w d h = record {
    fronts = λ u x j. h.fronts u (x ++ (d ∷ [])) (ap (λ (z : List ℕ). z ++ (d ∷ [])) j ∙ append_assoc u x (d ∷ []));
    meets = λ e v m. ⊎_elim (λ l. by_front e v l.1 l.0 l.2) (λ l. inr (shorter v l)) (h.meets e v m);
    spells = λ v a m. shorter v (h.spells v a m);
  }
    where
      shorter : (v : List ℕ) → Past (w ++ (d ∷ [])) Q v → Past w (λ c. c ≡ d) v
      shorter v l = record { next = d; rest = l.next ∷ l.rest; joined = l.joined ∙ append_assoc w (d ∷ []) (l.next ∷ l.rest); is = refl }

      by_rest : (e : Event Kind) (v x : List ℕ) → e ≡ Begin → w ++ (d ∷ []) ≡ v ++ x → (y : List ℕ) → v ≡ w ++ y → LedBy w (λ c. c ≡ d) e v
      by_rest e v x b j [] k = inl (b, [], sym (append-nil v ∙ k ∙ append-nil w))
      by_rest e v x b j (c ∷ y) k =
          let i : d ∷ [] ≡ (c ∷ y) ++ x = append_cancel_left w (d ∷ []) ((c ∷ y) ++ x) (regroup x w (c ∷ y) j k) in
          inr (record { next = c; rest = y; joined = k; is = (let same : d ≡ c = cc in sym same) })

      by_front : (e : Event Kind) (v x : List ℕ) → e ≡ Begin → w ++ (d ∷ []) ≡ v ++ x → LedBy w (λ c. c ≡ d) e v
      by_front e v x b j = ⊎_elim
          (λ k. by_rest e v x b j k.0 k.1)
          (λ k. inl (b, k.c ∷ k.rest, k.front))
          (compare w (d ∷ []) v x j)

  -- A rule that is led by a word begins with its first character.
  pub starts_led : {A : Type 0} {P Q : ℕ → Type 0} {r : Rule Kind A} {c : ℕ} {w : List ℕ} → P c → Led (c ∷ w) Q r → Starts P r
  starts_led {A} {P} {Q} {r} {c} {w} is h = record {
    meets = λ e d x m. ⊎_elim
        (λ l. subst P (let k = l.2 in let same : c ≡ d = cc in same) is)
        (λ l. by_past d x l)
        (h.meets e (d ∷ x) m);
    spells = λ d x a m. by_past d x (h.spells (d ∷ x) a m);
    none = λ k b m. ⊎_elim (λ l. no_mark k b l.0) (λ l. not_past l) (h.meets (Mark k b) [] m);
    some = λ a m. not_past (h.spells [] a m);
  }
    where
      by_past : (d : ℕ) (x : List ℕ) → Past (c ∷ w) Q (d ∷ x) → P d
      by_past d x l = subst P (let k = l.joined in let same : c ≡ d = cc in same) is

      not_past : Past (c ∷ w) Q [] → ⊥
      not_past l = let k = l.joined in absurd cc

      no_mark : (k : Kind) (b : ℕ) → let e : Event Kind = Mark k b in e ≡ Begin → ⊥
      no_mark k b e = absurd cc

module _ {Kind : Type 0} {faults : FaultRanking Kind} where
  -- Where the text doesn't continue the word with such a character, only prefixes of the word are
  -- there.
  pub led_covers_rest : {A : Type 0} {w : List ℕ} {Q : ℕ → Type 0} {r : Rule Kind A} {J : A → Rest Kind} {X : Rest Kind} {text : List ℕ} → Led w Q r → ((u x y : List ℕ) → w ≡ u ++ x → text ≡ u ++ y → X.Meets Begin u ⊎ (u ≡ [])) → ((d : ℕ) (x : List ℕ) → text ≡ w ++ (d ∷ x) → Q d → ⊥) → Covers faults text (ahead r J) X
  led_covers_rest {A} {w} {Q} {r} {J} {X} {text} h fronts none = record {
    events = λ e v t j m. ⊎_elim
        (λ l. ⊎_elim (λ f. by_front e v t j f.0 (fronts v f.1 t f.2 j)) (λ p. absurd (not_past v t j p)) (h.meets e v l))
        (λ l. absurd (not_past l.1.front (l.1.back ++ t) (regroup t l.1.front l.1.back j l.1.joined) (h.spells l.1.front l.0 l.1.front_is)))
        m;
    whole = λ m. not_past m.1.front m.1.back m.1.joined (h.spells m.1.front m.0 m.1.front_is);
  }
    where
      not_past : (v t : List ℕ) → text ≡ v ++ t → Past w Q v → ⊥
      not_past v t j p = none p.next (p.rest ++ t) (regroup t w (p.next ∷ p.rest) j p.joined) p.is

      by_front : (e : Event Kind) (v t : List ℕ) → text ≡ v ++ t → e ≡ Begin → X.Meets Begin v ⊎ (v ≡ []) → X.Meets e v ⊎ Idle faults e v
      by_front Begin v t j b m = m
      by_front (Mark k c) v t j b m = absurd cc

  -- Of two rules that are led by one word the one is covered by the other where the text doesn't
  -- continue with its class.
  pub led_covers : {A B : Type 0} {w : List ℕ} {P Q : ℕ → Type 0} {r : Rule Kind A} {s : Rule Kind B} {J : A → Rest Kind} {K : B → Rest Kind} {text : List ℕ} → Led w Q r → Led w P s → ((d : ℕ) (x : List ℕ) → text ≡ w ++ (d ∷ x) → Q d → ⊥) → Covers faults text (ahead r J) (ahead s K)
  led_covers {A} {B} {w} {P} {Q} {r} {s} {J} {K} {text} h i none = led_covers_rest h (λ u x y j k. inl (inl (i.fronts u x j))) none

-- # Where there isn't a text of a rule

module _ {Kind A : Type 0} (faults : FaultRanking Kind) (w : List ℕ) (Q : ℕ → Type 0) (r : Rule Kind A) (K : A → Rest Kind) (h : Led w Q r) (text : List ℕ) (none : (d : ℕ) (x : List ℕ) → text ≡ w ++ (d ∷ x) → Q d → ⊥) where
  not_there : (v t : List ℕ) → text ≡ v ++ t → Past w Q v → ⊥
  not_there v t j p = none p.next (p.rest ++ t) (regroup t w (p.next ∷ p.rest) j p.joined) p.is

  module _ (used left : List ℕ) (joined : text ≡ used ++ left) (is_front : (x : List ℕ) × (w ≡ used ++ x)) (longest : (v t x : List ℕ) → text ≡ v ++ t → w ≡ v ++ x → length v ≤ length used) where
    led_settled : (e : Event Kind) (v t : List ℕ) → text ≡ v ++ t → (ahead r K).Meets e v → Passed faults e v used
    led_settled e v t j (inl m) = ⊎_elim (λ l. by_begin e l.0 (longest v t l.1 j l.2)) (λ l. absurd (not_there v t j l)) (h.meets e v m)
      where
        by_begin : (e : Event Kind) → e ≡ Begin → length v ≤ length used → Passed faults e v used
        by_begin Begin b n = n
        by_begin (Mark k c) b n = absurd cc
    led_settled e v t j (inr m) = absurd (not_there m.1.front (m.1.back ++ t) (regroup t m.1.front m.1.back j m.1.joined) (h.spells m.1.front m.0 m.1.front_is))

    led_is_stopped : IsStopped faults r K text left
    led_is_stopped = record {
      used = used;
      joined = joined;
      begun = h.fronts used is_front.0 is_front.1;
      settled = led_settled;
      none = λ v t b j m _. not_there v t j (h.spells v b m);
    }

  -- The rule stops where its word stops, or after the word.
  pub led_stopped : (out : Result (Unit {0} × List ℕ) (Stop Kind)) → Outcome faults (word w) (λ _. anything) text out → Outcome faults r K text (out >>= λ x. Err (Syntax x.1))
  led_stopped (Ok x) o = led_is_stopped o.used x.1 o.joined ([], sym o.spelled ∙ sym (append-nil o.used)) (λ v t y j k. ⊎_elim (λ p. p) (λ z. absurd z.2) (o.settled Begin v t j (inl (y, k))))
  led_stopped (Err (Syntax left)) o = led_is_stopped o.used left o.joined o.begun (λ v t y j k. o.settled Begin v t j (inl (y, k)))
  led_stopped (Err (Faulty kind left)) o = absurd o.met

module _ {Kind : Type 0} {faults : FaultRanking Kind} where
  -- Where reading breaks off, the rule is covered by whatever has each prefix of the longest
  -- beginning as a beginning.
  pub stopped_covers : {A : Type 0} {r : Rule Kind A} {J : A → Rest Kind} {X : Rest Kind} {text left : List ℕ} → (h : IsStopped faults r J text left) → ((u x : List ℕ) → h.used ≡ u ++ x → X.Meets Begin u ⊎ (u ≡ [])) → Covers faults text (ahead r J) X
  stopped_covers {A} {r} {J} {X} {text} {left} h fronts = record {
    events = λ e v w j m. by_event e v w j (h.settled e v w j m);
    whole = λ m. h.none m.1.front m.1.back m.0 m.1.joined m.1.front_is m.1.back_is;
  }
    where
      by_front : (v w : List ℕ) → text ≡ v ++ w → length v ≤ length h.used → ((y : List ℕ) × (h.used ≡ v ++ y)) ⊎ GoesOn v h.used left → X.Meets Begin v ⊎ (v ≡ [])
      by_front v w j n (inl k) = fronts v k.0 k.1
      by_front v w j n (inr k) = absurd (omega (arith, n, ap length k.front, length-append h.used (k.c ∷ k.rest)))

      by_event : (e : Event Kind) (v w : List ℕ) → text ≡ v ++ w → Passed faults e v h.used → X.Meets e v ⊎ Idle faults e v
      by_event Begin v w j p = by_front v w j p (compare v w h.used left (sym j ∙ h.joined))
      by_event (Mark k b) v w j p = inr p
