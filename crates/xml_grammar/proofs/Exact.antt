-- When a reading function reads a rule exactly, whatever may follow the rule.
use Rattle.std.proofs.Common.{◌≡◌, ℕ, ◌+◌, ◌<◌, ◌≤◌, true, false, List, ◌++◌, length, Result, Ok, Err, ◌⊎◌, inl, inr, ⊎_elim, refl, sym, ap, subst, ◌∙◌, append_assoc, arith}
use Rattle.std.proofs.lemmas.List.{append_cancel_left, length-append}
use Rattle.xml_grammar.specs.Rules.{Event, Begin, Mark, Rule, Split, sequence}
use Rattle.xml_grammar.specs.TextReading.{Stop, Syntax, Faulty, Reader, ◌>>=◌, read_sequence}
use Rattle.xml_grammar.specs.ParseResults.{FaultRanking}

-- What may follow a rule: its events, and whether the text may end that way.
pub record Rest (Kind : Type 0) : Type 1 where
  pub Meets : Event Kind → List ℕ → Type 0
  pub Whole : List ℕ → Type 0

-- A rule, with what may follow it.
abbrev pub ahead : {Kind A : Type 0} → Rule Kind A → (A → Rest Kind) → Rest Kind
ahead {Kind} {A} r K = record {
  Meets = λ e text. r.Meets e text ⊎ ((a : A) × Split text (λ u. r.Spells u a) (λ v. (K a).Meets e v));
  Whole = λ text. (a : A) × Split text (λ u. r.Spells u a) (λ v. (K a).Whole v);
}

-- in a text in three parts the last two can be taken together
pub regroup : {text v : List ℕ} (w front back : List ℕ) → text ≡ v ++ w → v ≡ front ++ back → text ≡ front ++ (back ++ w)
regroup {text} {v} w front back j s = j ∙ ap (λ (z : List ℕ). z ++ w) s ∙ append_assoc front back w

-- what is left after a prefix of a text, by a longer prefix
pub cut : {text v : List ℕ} (u left w x : List ℕ) → text ≡ u ++ left → text ≡ v ++ w → v ≡ u ++ x → left ≡ x ++ w
cut {text} {v} u left w x j k h = append_cancel_left u left (x ++ w) (sym j ∙ regroup w u x k h)

-- a text after a prefix
pub under : {v x : List ℕ} (u y z : List ℕ) → v ≡ u ++ x → x ≡ y ++ z → v ≡ (u ++ y) ++ z
under {v} {x} u y z h k = h ∙ ap (λ (t : List ℕ). u ++ t) k ∙ sym (append_assoc u y z)

pub pair_is : {A B : Type 0} {x : A × B} {a : A} {b : B} → x.0 ≡ a → x.1 ≡ b → x ≡ (a, b)
pair_is {A} {B} {x} {a} {b} h i = ap (λ (z : A). (z, x.1)) h ∙ ap (λ (z : B). (a, z)) i

module _ {Kind : Type 0} where
  pub sequence_meets : {A B : Type 0} (r : Rule Kind A) (s : A → Rule Kind B) (K : A × B → Rest Kind) (e : Event Kind) (v : List ℕ) → (ahead (sequence r s) K).Meets e v → (ahead r (λ a. ahead (s a) (λ b. K (a, b)))).Meets e v
  sequence_meets r s K e v (inl (inl h)) = inl h
  sequence_meets r s K e v (inl (inr h)) = inr (h.0, record { front = h.1.front; back = h.1.back; joined = h.1.joined; front_is = h.1.front_is; back_is = inl h.1.back_is })
  sequence_meets r s K e v (inr h) =
      let f = h.1.front_is in
      inr (h.0.0, record { front = f.front; back = f.back ++ h.1.back; joined = regroup h.1.back f.front f.back h.1.joined f.joined; front_is = f.front_is; back_is = inr (h.0.1, record { front = f.back; back = h.1.back; joined = refl; front_is = f.back_is; back_is = h.1.back_is }) })

  pub sequence_whole : {A B : Type 0} (r : Rule Kind A) (s : A → Rule Kind B) (K : A × B → Rest Kind) (v : List ℕ) → (ahead (sequence r s) K).Whole v → (ahead r (λ a. ahead (s a) (λ b. K (a, b)))).Whole v
  sequence_whole r s K v h =
      let f = h.1.front_is in
      (h.0.0, record { front = f.front; back = f.back ++ h.1.back; joined = regroup h.1.back f.front f.back h.1.joined f.joined; front_is = f.front_is; back_is = (h.0.1, record { front = f.back; back = h.1.back; joined = refl; front_is = f.back_is; back_is = h.1.back_is }) })

module _ {Kind : Type 0} (faults : FaultRanking Kind) where
  -- Where the prefix u was read, an event at the prefix v is over: a beginning is no longer, a
  -- mark no fault.
  abbrev pub Passed : Event Kind → List ℕ → List ℕ → Type 0
  Passed Begin v u = length v ≤ length u
  Passed (Mark kind back) v u = faults.is_fault kind ≡ false

  -- A fault that an event at the prefix v marks is after the end of u, or there with no lesser
  -- rank than this kind.
  abbrev pub Behind : Kind → Event Kind → List ℕ → List ℕ → Type 0
  Behind kind Begin v u = Unit {0}
  Behind kind (Mark k back) v u = faults.is_fault k ≡ true → (length u + back < length v) ⊎ ((length u + back ≡ length v) × (faults.rank kind ≤ faults.rank k))

  -- The event is an event of what follows u.
  abbrev pub Later : Rest Kind → Event Kind → List ℕ → List ℕ → Type 0
  Later K e v u = (x : List ℕ) × (v ≡ u ++ x) × K.Meets e x

  -- The rule was read: everything else that the rule or what follows it could be in this text is
  -- over, or follows.
  pub record IsRead {A : Type 0} (r : Rule Kind A) (K : A → Rest Kind) (text : List ℕ) (a : A) (left : List ℕ) : Type 0 where
    pub used : List ℕ
    pub joined : text ≡ used ++ left
    pub spelled : r.Spells used a
    pub settled : (e : Event Kind) (v w : List ℕ) → text ≡ v ++ w → (ahead r K).Meets e v → Passed e v used ⊎ Later (K a) e v used
    pub unique : (v w : List ℕ) (b : A) → text ≡ v ++ w → r.Spells v b → (K b).Whole w → (v ≡ used) × (b ≡ a)

  -- The text breaks off.
  pub record IsStopped {A : Type 0} (r : Rule Kind A) (K : A → Rest Kind) (text left : List ℕ) : Type 0 where
    pub used : List ℕ
    pub joined : text ≡ used ++ left
    pub begun : r.Meets Begin used
    pub settled : (e : Event Kind) (v w : List ℕ) → text ≡ v ++ w → (ahead r K).Meets e v → Passed e v used
    pub none : (v w : List ℕ) (b : A) → text ≡ v ++ w → r.Spells v b → (K b).Whole w → ⊥

  -- A fault is marked, and whole texts end after it.
  pub record IsAtFault {A : Type 0} (r : Rule Kind A) (K : A → Rest Kind) (text : List ℕ) (kind : Kind) (left : List ℕ) : Type 0 where
    pub used : List ℕ
    pub joined : text ≡ used ++ left
    pub seen : List ℕ
    pub unseen : List ℕ
    pub left_is : left ≡ seen ++ unseen
    pub met : r.Meets (Mark kind (length seen)) (used ++ seen)
    pub is_fault : faults.is_fault kind ≡ true
    pub settled : (e : Event Kind) (v w : List ℕ) → text ≡ v ++ w → (ahead r K).Meets e v → Behind kind e v used
    pub beyond : (v w : List ℕ) (b : A) → text ≡ v ++ w → r.Spells v b → (K b).Whole w → length used < length v

  abbrev pub Outcome : {A : Type 0} → Rule Kind A → (A → Rest Kind) → List ℕ → Result (A × List ℕ) (Stop Kind) → Type 0
  Outcome r K text (Ok x) = IsRead r K text x.0 x.1
  Outcome r K text (Err (Syntax left)) = IsStopped r K text left
  Outcome r K text (Err (Faulty kind left)) = IsAtFault r K text kind left

  -- Each text is read exactly.
  pub record Exact {A : Type 0} (r : Rule Kind A) (K : A → Rest Kind) (p : Reader Kind A) : Type 0 where
    pub by : (text : List ℕ) → Outcome r K text (p text)

  pub passed_more : (e : Event Kind) (v u x : List ℕ) → Passed e v u → Passed e v (u ++ x)
  passed_more Begin v u x h = omega (arith, length-append u x)
  passed_more (Mark k b) v u x h = h

  pub passed_under : (e : Event Kind) (v u x y : List ℕ) → v ≡ u ++ x → Passed e x y → Passed e v (u ++ y)
  passed_under Begin v u x y j h = omega (arith, length-append u x, length-append u y, ap length j)
  passed_under (Mark k b) v u x y j h = h

  pub behind_passed : (kind : Kind) (e : Event Kind) (v u x : List ℕ) → Passed e v u → Behind kind e v x
  behind_passed kind Begin v u x h = tt
  behind_passed kind (Mark k b) v u x h = λ t. absurd cc

  pub behind_under : (kind : Kind) (e : Event Kind) (v u x y : List ℕ) → v ≡ u ++ x → Behind kind e x y → Behind kind e v (u ++ y)
  behind_under kind Begin v u x y j h = tt
  behind_under kind (Mark k b) v u x y j h = λ t. ⊎_elim
      (λ l. inl (omega (arith, l, length-append u x, length-append u y, ap length j)))
      (λ l. inr (omega (arith, l.0, length-append u x, length-append u y, ap length j), l.1))
      (h t)

  module _ {A B : Type 0} (r : Rule Kind A) (s : A → Rule Kind B) (K : A × B → Rest Kind) where
    abbrev K₁ : A → Rest Kind
    K₁ a = ahead (s a) (λ b. K (a, b))

    -- a whole text of both is a whole text of the first
    first_whole : (v w : List ℕ) (b : A × B) → (sp : Split v (λ u. r.Spells u b.0) (λ x. (s b.0).Spells x b.1)) → (K b).Whole w → (K₁ b.0).Whole (sp.back ++ w)
    first_whole v w b sp k = (b.1, record { front = sp.back; back = w; joined = refl; front_is = sp.back_is; back_is = k })

    module _ (text : List ℕ) (a : A) (left : List ℕ) (h : IsRead r K₁ text a left) where
      record Both (v w : List ℕ) (b : A × B) : Type 0 where
        back : List ℕ
        joined : v ≡ h.used ++ back
        same : b.0 ≡ a
        left_is : left ≡ back ++ w
        back_is : (s a).Spells back b.1
        whole : (K (a, b.1)).Whole w

      both : (v w : List ℕ) (b : A × B) → text ≡ v ++ w → Split v (λ u. r.Spells u b.0) (λ x. (s b.0).Spells x b.1) → (K b).Whole w → Both v w b
      both v w b j sp k =
          let o = h.unique sp.front (sp.back ++ w) b.0 (regroup w sp.front sp.back j sp.joined) sp.front_is (first_whole v w b sp k) in
          let at : v ≡ h.used ++ sp.back = sp.joined ∙ ap (λ (z : List ℕ). z ++ sp.back) o.0 in
          record { back = sp.back; joined = at; same = o.1; left_is = cut h.used left w sp.back h.joined j at; back_is = subst (λ (z : A). (s z).Spells sp.back b.1) o.1 sp.back_is; whole = subst (λ (z : A). (K (z, b.1)).Whole w) o.1 k }

      second_outcome : (out : Result (B × List ℕ) (Stop Kind)) → Outcome (s a) (λ b. K (a, b)) left out → Outcome (sequence r s) K text (out >>= λ y. Ok ((a, y.0), y.1))
      second_outcome (Ok y) i = record {
        used = h.used ++ i.used;
        joined = under h.used i.used y.1 h.joined i.joined;
        spelled = record { front = h.used; back = i.used; joined = refl; front_is = h.spelled; back_is = i.spelled };
        settled = λ e v w j m. ⊎_elim
            (λ p. inl (passed_more e v h.used i.used p))
            (λ l. ⊎_elim
            (λ p. inl (passed_under e v h.used l.0 i.used l.1 p))
            (λ k. inr (k.0, under h.used i.used k.0 l.1 k.1, k.2))
            (i.settled e l.0 w (cut h.used left w l.0 h.joined j l.1) l.2))
            (h.settled e v w j (sequence_meets r s K e v m));
        unique = λ v w b j sp k.
            let o = both v w b j sp k in
            let p = i.unique o.back w b.1 o.left_is o.back_is o.whole in
            (o.joined ∙ ap (λ (z : List ℕ). h.used ++ z) p.0, pair_is o.same p.1);
      }
      second_outcome (Err (Syntax l)) i = record {
        used = h.used ++ i.used;
        joined = under h.used i.used l h.joined i.joined;
        begun = inr (a, record { front = h.used; back = i.used; joined = refl; front_is = h.spelled; back_is = i.begun });
        settled = λ e v w j m. ⊎_elim
            (λ p. passed_more e v h.used i.used p)
            (λ k. passed_under e v h.used k.0 i.used k.1 (i.settled e k.0 w (cut h.used left w k.0 h.joined j k.1) k.2))
            (h.settled e v w j (sequence_meets r s K e v m));
        none = λ v w b j sp k. let o = both v w b j sp k in i.none o.back w b.1 o.left_is o.back_is o.whole;
      }
      second_outcome (Err (Faulty kind l)) i = record {
        used = h.used ++ i.used;
        joined = under h.used i.used l h.joined i.joined;
        seen = i.seen;
        unseen = i.unseen;
        left_is = i.left_is;
        met = inr (a, record { front = h.used; back = i.used ++ i.seen; joined = append_assoc h.used i.used i.seen; front_is = h.spelled; back_is = i.met });
        is_fault = i.is_fault;
        settled = λ e v w j m. ⊎_elim
            (λ p. behind_passed kind e v h.used (h.used ++ i.used) p)
            (λ k. behind_under kind e v h.used k.0 i.used k.1 (i.settled e k.0 w (cut h.used left w k.0 h.joined j k.1) k.2))
            (h.settled e v w j (sequence_meets r s K e v m));
        beyond = λ v w b j sp k.
            let o = both v w b j sp k in
            omega (arith, i.beyond o.back w b.1 o.left_is o.back_is o.whole, ap length o.joined, length-append h.used o.back, length-append h.used i.used);
      }

    -- The second rule has to be read exactly only where the first was read.
    pub sequence_outcome : (q : A → Reader Kind B) (text : List ℕ) (out : Result (A × List ℕ) (Stop Kind)) → Outcome r K₁ text out → ((x : A × List ℕ) → IsRead r K₁ text x.0 x.1 → Outcome (s x.0) (λ b. K (x.0, b)) x.1 (q x.0 x.1)) → Outcome (sequence r s) K text (out >>= λ x. q x.0 x.1 >>= λ y. Ok ((x.0, y.0), y.1))
    sequence_outcome q text (Ok x) h i = second_outcome text x.0 x.1 h (q x.0 x.1) (i x h)
    sequence_outcome q text (Err (Syntax l)) h i = record {
      used = h.used;
      joined = h.joined;
      begun = inl h.begun;
      settled = λ e v w j m. h.settled e v w j (sequence_meets r s K e v m);
      none = λ v w b j sp k. h.none sp.front (sp.back ++ w) b.0 (regroup w sp.front sp.back j sp.joined) sp.front_is (first_whole v w b sp k);
    }
    sequence_outcome q text (Err (Faulty kind l)) h i = record {
      used = h.used;
      joined = h.joined;
      seen = h.seen;
      unseen = h.unseen;
      left_is = h.left_is;
      met = inl h.met;
      is_fault = h.is_fault;
      settled = λ e v w j m. h.settled e v w j (sequence_meets r s K e v m);
      beyond = λ v w b j sp k. omega (arith, h.beyond sp.front (sp.back ++ w) b.0 (regroup w sp.front sp.back j sp.joined) sp.front_is (first_whole v w b sp k), ap length sp.joined, length-append sp.front sp.back);
    }

module _ {Kind : Type 0} {faults : FaultRanking Kind} where
  -- A sequence is read exactly where its parts are, whatever they begin with.
  pub exact_sequence : {A B : Type 0} {r : Rule Kind A} {s : A → Rule Kind B} {K : A × B → Rest Kind} {p : Reader Kind A} {q : A → Reader Kind B} → Exact faults r (λ a. ahead (s a) (λ b. K (a, b))) p → ((a : A) → Exact faults (s a) (λ b. K (a, b)) (q a)) → Exact faults (sequence r s) K (read_sequence p q)
  exact_sequence {A} {B} {r} {s} {K} {p} {q} hp hq = record { by = λ text. sequence_outcome faults r s K q text (p text) (hp.by text) (λ x _. (hq x.0).by x.1) }

  -- A sequence is read exactly where its parts are, and the second is known to follow a text of
  -- the first.
  pub exact_sequence_if : {A B : Type 0} {r : Rule Kind A} {s : A → Rule Kind B} {K : A × B → Rest Kind} {p : Reader Kind A} {q : A → Reader Kind B} → Exact faults r (λ a. ahead (s a) (λ b. K (a, b))) p → ((a : A) (u : List ℕ) → r.Spells u a → Exact faults (s a) (λ b. K (a, b)) (q a)) → Exact faults (sequence r s) K (read_sequence p q)
  exact_sequence_if {A} {B} {r} {s} {K} {p} {q} hp hq = record { by = λ text. sequence_outcome faults r s K q text (p text) (hp.by text) (λ x i. (hq x.0 i.used i.spelled).by x.1) }
