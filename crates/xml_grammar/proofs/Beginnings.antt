-- A prefix of a beginning is a beginning, so all prefixes of the longest beginning of a text are
-- beginnings. Rules whose texts are taken whole or not at all don't have this property.
use Rattle.std.proofs.Common.{◌≡◌, ℕ, Bool, List, [], ◌∷◌, ◌++◌, inl, inr, ⊎_elim, refl, sym, ap, subst, ◌∙◌, append_assoc}
use Rattle.std.specs.Prelude.{Some}
use Rattle.std.proofs.lemmas.List.{append_cancel_left}
use Rattle.xml_grammar.specs.Digits.{Digits}
use Rattle.xml_grammar.specs.Rules.{Begin, Rule, Split, empty_text, one_char, word, char_run, up_to, number, sequence, either, SpellsEach, many, map_rule, filter_rule, with_value_marks, optional, between_gaps, one_or_more, keep_first, keep_second, quoted, name_rule as name_of}
use Rattle.xml_grammar.proofs.Exact.{Rest}
use Rattle.xml_grammar.proofs.Fronts.{compare, pass_front, last_front}
use Rattle.xml_grammar.proofs.Greedy.{digits_front}
use Rattle.xml_grammar.proofs.Repeats.{one_more_meets}
use Rattle.xml_grammar.proofs.Laws.{Lawful, lawful_one, lawful_sequence}

none_front : (u v : List ℕ) → u ++ v ≡ [] → u ≡ []
none_front [] v j = refl
none_front (c ∷ u) v j = absurd cc

module _ {Kind : Type 0} where
  pub record Fronted {A : Type 0} (r : Rule Kind A) : Type 0 where
    pub front : (u w : List ℕ) → r.Meets Begin (u ++ w) → r.Meets Begin u

  pub fronted_empty : {A : Type 0} {value : A} → Fronted (empty_text value)
  fronted_empty = record { front = λ u w h. none_front u w h }

  pub fronted_one : {p : ℕ → Bool} → Fronted (one_char p)
  fronted_one {p} = record { front = one_front }
    where
      one_front : (u w : List ℕ) → (one_char {Kind = Kind} p).Meets Begin (u ++ w) → (one_char {Kind = Kind} p).Meets Begin u
      one_front [] w h = inl refl
      one_front (c ∷ u) w (inl h) = absurd cc
      one_front (c ∷ []) w (inr h) = inr (h.0, h.1, let e = h.2 in let same : c ≡ h.0 = cc in ap (λ (z : ℕ). z ∷ []) same)
      one_front (c ∷ d ∷ u) w (inr h) = absurd (let e = h.2 in cc)

  pub fronted_word : (w : List ℕ) → Fronted (word w)
  fronted_word w = record { front = λ u t h. (t ++ h.0, h.1 ∙ append_assoc u t h.0) }

  pub fronted_run : {p : ℕ → Bool} → Fronted (char_run p)
  fronted_run {p} = record { front = pass_front p }

  pub fronted_up_to : {p : ℕ → Bool} (w : List ℕ) → Fronted (up_to p w)
  fronted_up_to {p} w = record { front = λ u t h. (pass_front p u t h.0, last_front w u t h.1) }

  pub fronted_number : (d : Digits) (most : ℕ) (p : ℕ → Bool) → Fronted (number d most p)
  fronted_number d most p = record { front = digits_front d most 0 }

  -- The whole texts of the first rule of a sequence are beginnings of the sequence.
  pub fronted_sequence : {A B : Type 0} {r : Rule Kind A} {s : A → Rule Kind B} → Lawful r → Fronted r → ((a : A) → Fronted (s a)) → Fronted (sequence r s)
  fronted_sequence {A} {B} {r} {s} l h i = record { front = λ u w m. ⊎_elim (λ k. inl (h.front u w k)) (λ k. by_cut u w k.0 k.1.front k.1.back k.1.joined k.1.front_is k.1.back_is) m }
    where
      by_cut : (u w : List ℕ) (a : A) (front back : List ℕ) → u ++ w ≡ front ++ back → r.Spells front a → (s a).Meets Begin back → (sequence r s).Meets Begin u
      by_cut u w a front back j sp m = ⊎_elim
          (λ k. inl (h.front u k.0 (subst (r.Meets Begin) k.1 (l.whole front a sp))))
          (λ k. inr (a, record { front = front; back = k.c ∷ k.rest; joined = k.front; front_is = sp; back_is = (i a).front (k.c ∷ k.rest) w (subst ((s a).Meets Begin) (append_cancel_left front back ((k.c ∷ k.rest) ++ w) (sym j ∙ ap (λ (z : List ℕ). z ++ w) k.front ∙ append_assoc front (k.c ∷ k.rest) w)) m) }))
          (compare u w front back j)

  pub fronted_either : {A : Type 0} {r s : Rule Kind A} → Fronted r → Fronted s → Fronted (either r s)
  fronted_either h i = record { front = λ u w m. ⊎_elim (λ l. inl (h.front u w l)) (λ l. inr (i.front u w l)) m }

  pub fronted_valued : {A B : Type 0} {r : Rule Kind A} (f : A → B) → Fronted r → Fronted (map_rule f r)
  fronted_valued f h = record { front = h.front }

  pub fronted_only : {A : Type 0} {r : Rule Kind A} (t : A → Bool) → Fronted r → Fronted (filter_rule t r)
  fronted_only t h = record { front = h.front }

  pub fronted_judged : {A : Type 0} {r : Rule Kind A} (Says : A → Kind → ℕ → Type 0) → Fronted r → Fronted (with_value_marks Says r)
  fronted_judged Says h = record { front = h.front }

  module _ {A : Type 0} {r : Rule Kind A} (l : Lawful r) (h : Fronted r) where
    each_front : (xs : List A) (u w : List ℕ) → (sp : Split (u ++ w) (λ x. SpellsEach r xs x) (λ y. r.Meets Begin y)) → (many r).Meets Begin u
    each_front [] u w sp = ([], record { front = []; back = u; joined = refl; front_is = refl; back_is = h.front u w (subst (r.Meets Begin) (sym (sp.joined ∙ ap (λ (z : List ℕ). z ++ sp.back) sp.front_is)) sp.back_is) })
    each_front (x ∷ xs) u w sp = ⊎_elim
        (λ k. one_more_meets r nothing Begin u (inl (h.front u k.0 (subst (r.Meets Begin) k.1 (l.whole f.front x f.front_is)))))
        (λ k.
        let rest = append_cancel_left f.front (f.back ++ sp.back) ((k.c ∷ k.rest) ++ w) (sym (append_assoc f.front f.back sp.back) ∙ sym (sp.joined ∙ ap (λ (z : List ℕ). z ++ sp.back) f.joined) ∙ ap (λ (z : List ℕ). z ++ w) k.front ∙ append_assoc f.front (k.c ∷ k.rest) w) in
        let m = each_front xs (k.c ∷ k.rest) w (record { front = f.back; back = sp.back; joined = sym rest; front_is = f.back_is; back_is = sp.back_is }) in
        one_more_meets r nothing Begin u (inr (x, record { front = f.front; back = k.c ∷ k.rest; joined = k.front; front_is = f.front_is; back_is = m })))
        (compare u w f.front (f.back ++ sp.back) (sp.joined ∙ ap (λ (z : List ℕ). z ++ sp.back) f.joined ∙ append_assoc f.front f.back sp.back))
      where
        f : Split sp.front (λ u. r.Spells u x) (λ v. SpellsEach r xs v)
        f = sp.front_is

        nothing : Rest Kind
        nothing = record { Meets = λ e v. ⊥; Whole = λ v. ⊥ }

    pub fronted_many : Fronted (many r)
    fronted_many = record { front = λ u w m. each_front m.0 u w m.1 }

  -- # Shapes

  pub fronted_optional : {A : Type 0} {r : Rule Kind A} → Fronted r → Fronted (optional r)
  fronted_optional h = fronted_either (fronted_valued Some h) fronted_empty

  pub fronted_before : {A B : Type 0} {r : Rule Kind A} {s : Rule Kind B} → Lawful r → Fronted r → Fronted s → Fronted (keep_first r s)
  fronted_before l h i = fronted_valued (λ x. x.0) (fronted_sequence l h (λ _. i))

  pub fronted_behind : {A B : Type 0} {r : Rule Kind A} {s : Rule Kind B} → Lawful r → Fronted r → Fronted s → Fronted (keep_second r s)
  fronted_behind l h i = fronted_valued (λ x. x.1) (fronted_sequence l h (λ _. i))

  pub fronted_name_of : {p q : ℕ → Bool} → Fronted (name_of p q)
  fronted_name_of = fronted_valued (λ x. x.0 ∷ x.1) (fronted_sequence lawful_one fronted_one (λ _. fronted_run))

  pub fronted_some_of : {p : ℕ → Bool} → Fronted (one_or_more p)
  fronted_some_of = fronted_name_of

  pub fronted_quoted : {A : Type 0} {is_quote : ℕ → Bool} {inside : ℕ → Rule Kind A} → ((q : ℕ) → Lawful (inside q)) → ((q : ℕ) → Fronted (inside q)) → Fronted (quoted is_quote inside)
  fronted_quoted l h = fronted_valued (λ x. x.1) (fronted_sequence lawful_one fronted_one (λ q. fronted_before (l q) (h q) (fronted_word (q ∷ []))))

  pub fronted_between : {A B : Type 0} {gap : Rule Kind A} {member : Rule Kind B} → Lawful gap → Fronted gap → Lawful member → Fronted member → Fronted (between_gaps gap member)
  fronted_between lg hg lm hm = fronted_sequence lg hg (λ _. fronted_many (lawful_sequence lm (λ _. lg)) (fronted_sequence lm hm (λ _. hg)))
