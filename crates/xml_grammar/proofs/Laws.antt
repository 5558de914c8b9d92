-- Laws of every rule: a whole text is a beginning, and a mark is inside the text whose end it is
-- met at, which continues a beginning.
use Rattle.std.proofs.Common.{◌≡◌, ℕ, ◌+◌, ◌<◌, ◌≤◌, Bool, List, [], ◌∷◌, ◌++◌, length, inl, inr, ⊎_elim, refl, sym, ap, ◌∙◌, arith}
use Rattle.std.specs.Prelude.{Some}
use Rattle.std.proofs.lemmas.List.{length-append, append-nil}
use Rattle.xml_grammar.specs.Digits.{Digits}
use Rattle.xml_grammar.specs.Rules.{Begin, Mark, Rule, no_text, empty_text, one_char, word, char_run, char_run_without, up_to, number, sequence, either, SpellsEach, many, map_rule, with_length, filter_rule, atomic, with_prefix_mark, with_value_marks, refused_word, optional, between_gaps, one_or_more, keep_first, keep_second, quoted, name_rule as name_of}
use Rattle.xml_grammar.proofs.Exact.{Rest, ahead, under}

-- A beginning extends beyond the place of a mark.
pub record Goes (P : List ℕ → Type 0) (back : ℕ) (v : List ℕ) : Type 0 where
  pub front : List ℕ
  pub rest : List ℕ
  pub joined : v ≡ front ++ rest
  pub begun : P front
  pub beyond : length v < length front + back

-- after a prefix
goes_under : (P Q : List ℕ → Type 0) (b : ℕ) (v u x : List ℕ) → v ≡ u ++ x → ((y : List ℕ) → Q y → P (u ++ y)) → Goes Q b x → Goes P b v
goes_under P Q b v u x j f g = record { front = u ++ g.front; rest = g.rest; joined = under u g.front g.rest j g.joined; begun = f g.front g.begun; beyond = omega (arith, g.beyond, ap length j, length-append u x, length-append u g.front) }

goes_as : (P Q : List ℕ → Type 0) (b : ℕ) (v : List ℕ) → ((y : List ℕ) → Q y → P y) → Goes Q b v → Goes P b v
goes_as P Q b v f g = record { front = g.front; rest = g.rest; joined = g.joined; begun = f g.front g.begun; beyond = g.beyond }

module _ {Kind : Type 0} where
  pub record Lawful {A : Type 0} (r : Rule Kind A) : Type 0 where
    pub whole : (u : List ℕ) (a : A) → r.Spells u a → r.Meets Begin u
    pub within : (k : Kind) (b : ℕ) (v : List ℕ) → r.Meets (Mark k b) v → b ≤ length v
    pub beyond : (k : Kind) (b : ℕ) (v : List ℕ) → r.Meets (Mark k b) v → Goes (r.Meets Begin) b v

  -- A rule without marks.
  pub record Quiet {A : Type 0} (r : Rule Kind A) : Type 0 where
    pub no_mark : (k : Kind) (b : ℕ) (v : List ℕ) → r.Meets (Mark k b) v → ⊥

  -- Marks of what may follow are inside the text.
  pub record Inside (J : Rest Kind) : Type 0 where
    pub within : (k : Kind) (b : ℕ) (v : List ℕ) → J.Meets (Mark k b) v → b ≤ length v

  pub inside_ahead : {A : Type 0} {r : Rule Kind A} {K : A → Rest Kind} → Lawful r → ((a : A) → Inside (K a)) → Inside (ahead r K)
  inside_ahead h i = record { within = λ k b v m. ⊎_elim (λ l. h.within k b v l) (λ z. let n = (i z.0).within k b z.1.back z.1.back_is in omega (arith, ap length z.1.joined, length-append z.1.front z.1.back)) m }

  pub lawful_never : {A : Type 0} → let r : Rule Kind A = no_text in Lawful r
  lawful_never = record { whole = λ u a h. h; within = λ k b v m. absurd m; beyond = λ k b v m. absurd m }

  pub lawful_empty : {A : Type 0} {value : A} → Lawful (empty_text value)
  lawful_empty = record { whole = λ u a h. h.0; within = λ k b v m. absurd m; beyond = λ k b v m. absurd m }

  pub lawful_one : {p : ℕ → Bool} → Lawful (one_char p)
  lawful_one = record { whole = λ u a h. inr (a, h.0, h.1); within = λ k b v m. absurd m; beyond = λ k b v m. absurd m }

  pub lawful_word : (w : List ℕ) → Lawful (word w)
  lawful_word w = record { whole = λ u a h. ([], sym (append-nil u ∙ h)); within = λ k b v m. absurd m; beyond = λ k b v m. absurd m }

  pub lawful_run : {p : ℕ → Bool} → Lawful (char_run p)
  lawful_run {p} = record { whole = λ u a h. h.0; within = λ k b v m. absurd m; beyond = λ k b v m. absurd m }

  pub lawful_run_without : {p : ℕ → Bool} (w : List ℕ) → Lawful (char_run_without p w)
  lawful_run_without {p} w = record { whole = λ u a h. (h.0, h.1); within = λ k b v m. absurd m; beyond = λ k b v m. absurd m }

  pub lawful_up_to : {p : ℕ → Bool} (w : List ℕ) → Lawful (up_to p w)
  lawful_up_to {p} w = record { whole = λ u a h. (h.1, h.2); within = λ k b v m. absurd m; beyond = λ k b v m. absurd m }

  pub lawful_number : (d : Digits) (most : ℕ) (p : ℕ → Bool) → Lawful (number d most p)
  lawful_number d most p = record { whole = λ u a h. h.0; within = λ k b v m. absurd m; beyond = λ k b v m. absurd m }

  pub lawful_sequence : {A B : Type 0} {r : Rule Kind A} {s : A → Rule Kind B} → Lawful r → ((a : A) → Lawful (s a)) → Lawful (sequence r s)
  lawful_sequence {A} {B} {r} {s} h i = record {
    whole = λ u x m. inr (x.0, record { front = m.front; back = m.back; joined = m.joined; front_is = m.front_is; back_is = (i x.0).whole m.back x.1 m.back_is });
    within = λ k b v m. ⊎_elim (λ l. h.within k b v l) (λ z. let n = (i z.0).within k b z.1.back z.1.back_is in omega (arith, ap length z.1.joined, length-append z.1.front z.1.back)) m;
    beyond = λ k b v m. ⊎_elim
        (λ l. goes_as ((sequence r s).Meets Begin) (r.Meets Begin) b v (λ y n. inl n) (h.beyond k b v l))
        (λ z. goes_under ((sequence r s).Meets Begin) ((s z.0).Meets Begin) b v z.1.front z.1.back z.1.joined (λ y n. inr (z.0, record { front = z.1.front; back = y; joined = refl; front_is = z.1.front_is; back_is = n })) ((i z.0).beyond k b z.1.back z.1.back_is))
        m;
  }

  pub lawful_either : {A : Type 0} {r s : Rule Kind A} → Lawful r → Lawful s → Lawful (either r s)
  lawful_either {A} {r} {s} h i = record {
    whole = λ u a m. ⊎_elim (λ l. inl (h.whole u a l)) (λ l. inr (i.whole u a l)) m;
    within = λ k b v m. ⊎_elim (λ l. h.within k b v l) (λ l. i.within k b v l) m;
    beyond = λ k b v m. ⊎_elim
        (λ l. goes_as ((either r s).Meets Begin) (r.Meets Begin) b v (λ y n. inl n) (h.beyond k b v l))
        (λ l. goes_as ((either r s).Meets Begin) (s.Meets Begin) b v (λ y n. inr n) (i.beyond k b v l))
        m;
  }

  pub lawful_valued : {A B : Type 0} {r : Rule Kind A} (f : A → B) → Lawful r → Lawful (map_rule f r)
  lawful_valued f h = record { whole = λ u a m. h.whole u m.0 m.1; within = h.within; beyond = h.beyond }

  pub lawful_sized : {A : Type 0} {r : Rule Kind A} → Lawful r → Lawful (with_length r)
  lawful_sized h = record { whole = λ u a m. h.whole u a.0 m.0; within = h.within; beyond = h.beyond }

  pub lawful_only : {A : Type 0} {r : Rule Kind A} (t : A → Bool) → Lawful r → Lawful (filter_rule t r)
  lawful_only t h = record { whole = λ u a m. h.whole u a m.0; within = h.within; beyond = h.beyond }

  pub lawful_atomic : {A : Type 0} (r : Rule Kind A) → Lawful (atomic r)
  lawful_atomic r = record { whole = λ u a m. inr (a, m); within = λ k b v m. absurd m; beyond = λ k b v m. absurd m }

  pub lawful_judged : {A : Type 0} {r : Rule Kind A} (Says : A → Kind → ℕ → Type 0) → ((u : List ℕ) (a : A) (k : Kind) (b : ℕ) → r.Spells u a → Says a k b → (0 < b) × (b ≤ length u)) → Lawful r → Lawful (with_value_marks Says r)
  lawful_judged {A} {r} Says f h = record {
    whole = h.whole;
    within = λ k b v m. ⊎_elim (λ l. (f v l.0 k b l.1 l.2).1) (λ l. h.within k b v l) m;
    beyond = λ k b v m. ⊎_elim
        (λ l. record { front = v; rest = []; joined = sym (append-nil v); begun = h.whole v l.0 l.1; beyond = omega (arith, f v l.0 k b l.1 l.2) })
        (λ l. h.beyond k b v l)
        m;
  }

  pub lawful_marked : {A : Type 0} {r : Rule Kind A} (kind : Kind) (Front : List ℕ → Type 0) → ((v : List ℕ) → Front v → (0 < length v) × r.Meets Begin v) → Lawful r → Lawful (with_prefix_mark kind Front r)
  lawful_marked {A} {r} kind Front f h = record {
    whole = h.whole;
    within = λ k b v m. ⊎_elim (λ l. omega (arith, l.1)) (λ l. h.within k b v l) m;
    beyond = λ k b v m. ⊎_elim
        (λ l. let g = f v l.2 in record { front = v; rest = []; joined = sym (append-nil v); begun = g.1; beyond = omega (arith, g.0, l.1) })
        (λ l. h.beyond k b v l)
        m;
  }

  pub lawful_trap : {A : Type 0} (kind : Kind) (seen rest : List ℕ) → 0 < length seen → let r : Rule Kind A = refused_word kind seen rest in Lawful r
  lawful_trap {A} kind seen rest some = record {
    whole = λ u a m. absurd m;
    within = λ k b v m. omega (arith, m.1);
    beyond = λ k b v m. record { front = seen; rest = rest; joined = m.2; begun = ([], sym (append-nil seen)); beyond = omega (arith, m.1, some) };
  }

  module _ {A : Type 0} {r : Rule Kind A} (h : Lawful r) where
    -- The empty text has to be a beginning of the rule, so that no member at all is a beginning.
    each_whole : r.Meets Begin [] → (xs : List A) (u : List ℕ) → SpellsEach r xs u → (many r).Meets Begin u
    each_whole e xs u s = (xs, record { front = u; back = []; joined = sym (append-nil u); front_is = s; back_is = e })

    pub lawful_many : r.Meets Begin [] → Lawful (many r)
    lawful_many e = record {
      whole = λ u xs s. each_whole e xs u s;
      within = λ k b v m. let n = h.within k b m.1.back m.1.back_is in omega (arith, ap length m.1.joined, length-append m.1.front m.1.back);
      beyond = λ k b v m. goes_under ((many r).Meets Begin) (r.Meets Begin) b v m.1.front m.1.back m.1.joined (λ y n. (m.0, record { front = m.1.front; back = y; joined = refl; front_is = m.1.front_is; back_is = n })) (h.beyond k b m.1.back m.1.back_is);
    }

  -- # Shapes

  pub lawful_optional : {A : Type 0} {r : Rule Kind A} → Lawful r → Lawful (optional r)
  lawful_optional h = lawful_either (lawful_valued Some h) lawful_empty

  pub lawful_before : {A B : Type 0} {r : Rule Kind A} {s : Rule Kind B} → Lawful r → Lawful s → Lawful (keep_first r s)
  lawful_before h i = lawful_valued (λ x. x.0) (lawful_sequence h (λ _. i))

  pub lawful_behind : {A B : Type 0} {r : Rule Kind A} {s : Rule Kind B} → Lawful r → Lawful s → Lawful (keep_second r s)
  lawful_behind h i = lawful_valued (λ x. x.1) (lawful_sequence h (λ _. i))

  pub lawful_name_of : {p q : ℕ → Bool} → Lawful (name_of p q)
  lawful_name_of = lawful_valued (λ x. x.0 ∷ x.1) (lawful_sequence lawful_one (λ _. lawful_run))

  pub lawful_some_of : {p : ℕ → Bool} → Lawful (one_or_more p)
  lawful_some_of = lawful_name_of

  pub lawful_quoted : {A : Type 0} {is_quote : ℕ → Bool} {inside : ℕ → Rule Kind A} → ((q : ℕ) → Lawful (inside q)) → Lawful (quoted is_quote inside)
  lawful_quoted h = lawful_valued (λ x. x.1) (lawful_sequence lawful_one (λ q. lawful_before (h q) (lawful_word (q ∷ []))))

  pub lawful_between : {A B : Type 0} {gap : Rule Kind A} {member : Rule Kind B} → Lawful gap → Lawful member → member.Meets Begin [] → Lawful (between_gaps gap member)
  lawful_between h i e = lawful_sequence h (λ _. lawful_many (lawful_sequence i (λ _. h)) (inl e))

  -- # Rules without marks

  pub quiet_sequence : {A B : Type 0} {r : Rule Kind A} {s : A → Rule Kind B} → Quiet r → ((a : A) → Quiet (s a)) → Quiet (sequence r s)
  quiet_sequence h i = record { no_mark = λ k b v m. ⊎_elim (λ l. h.no_mark k b v l) (λ l. (i l.0).no_mark k b l.1.back l.1.back_is) m }

  pub quiet_either : {A : Type 0} {r s : Rule Kind A} → Quiet r → Quiet s → Quiet (either r s)
  quiet_either h i = record { no_mark = λ k b v m. ⊎_elim (λ l. h.no_mark k b v l) (λ l. i.no_mark k b v l) m }

  pub quiet_many : {A : Type 0} {r : Rule Kind A} → Quiet r → Quiet (many r)
  quiet_many h = record { no_mark = λ k b v m. h.no_mark k b m.1.back m.1.back_is }

  pub quiet_valued : {A B : Type 0} {r : Rule Kind A} (f : A → B) → Quiet r → Quiet (map_rule f r)
  quiet_valued f h = record { no_mark = h.no_mark }

  pub quiet_sized : {A : Type 0} {r : Rule Kind A} → Quiet r → Quiet (with_length r)
  quiet_sized h = record { no_mark = h.no_mark }

  pub quiet_only : {A : Type 0} {r : Rule Kind A} (t : A → Bool) → Quiet r → Quiet (filter_rule t r)
  quiet_only t h = record { no_mark = h.no_mark }

  pub quiet_empty : {A : Type 0} {value : A} → Quiet (empty_text value)
  quiet_empty = record { no_mark = λ k b v m. m }

  pub quiet_one : {p : ℕ → Bool} → Quiet (one_char p)
  quiet_one = record { no_mark = λ k b v m. m }

  pub quiet_word : (w : List ℕ) → Quiet (word w)
  quiet_word w = record { no_mark = λ k b v m. m }

  pub quiet_run : {p : ℕ → Bool} → Quiet (char_run p)
  quiet_run = record { no_mark = λ k b v m. m }

  pub quiet_number : (d : Digits) (most : ℕ) (p : ℕ → Bool) → Quiet (number d most p)
  quiet_number d most p = record { no_mark = λ k b v m. m }

  pub quiet_optional : {A : Type 0} {r : Rule Kind A} → Quiet r → Quiet (optional r)
  quiet_optional h = quiet_either (quiet_valued Some h) quiet_empty

  pub quiet_before : {A B : Type 0} {r : Rule Kind A} {s : Rule Kind B} → Quiet r → Quiet s → Quiet (keep_first r s)
  quiet_before h i = quiet_valued (λ x. x.0) (quiet_sequence h (λ _. i))

  pub quiet_behind : {A B : Type 0} {r : Rule Kind A} {s : Rule Kind B} → Quiet r → Quiet s → Quiet (keep_second r s)
  quiet_behind h i = quiet_valued (λ x. x.1) (quiet_sequence h (λ _. i))

  pub quiet_name_of : {p q : ℕ → Bool} → Quiet (name_of p q)
  quiet_name_of = quiet_valued (λ x. x.0 ∷ x.1) (quiet_sequence quiet_one (λ _. quiet_run))

  pub quiet_some_of : {p : ℕ → Bool} → Quiet (one_or_more p)
  quiet_some_of = quiet_name_of

  pub quiet_quoted : {A : Type 0} {is_quote : ℕ → Bool} {inside : ℕ → Rule Kind A} → ((q : ℕ) → Quiet (inside q)) → Quiet (quoted is_quote inside)
  quiet_quoted h = quiet_valued (λ x. x.1) (quiet_sequence quiet_one (λ q. quiet_before (h q) (quiet_word (q ∷ []))))

  pub quiet_between : {A B : Type 0} {gap : Rule Kind A} {member : Rule Kind B} → Quiet gap → Quiet member → Quiet (between_gaps gap member)
  quiet_between h i = quiet_sequence h (λ _. quiet_many (quiet_sequence i (λ _. h)))
