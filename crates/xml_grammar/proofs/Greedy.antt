-- Rules that are read as far as possible: runs of a class, and numbers. What follows must not
-- continue the class.
use Rattle.std.proofs.Common.{◌≡◌, ℕ, ◌+◌, ◌-◌, ◌*◌, ◌<◌, ◌≤◌, Bool, true, false, cond, List, [], ◌∷◌, ◌++◌, length, drop, Result, Ok, Err, ◌⊎◌, inl, inr, ⊎_elim, refl, sym, ap, subst, ◌∙◌, append_assoc, arith}
use Rattle.std.specs.Prelude.{◌&&◌, nat_le}
use Rattle.std.proofs.lemmas.Bool.Decides.{nat_tests}
use Rattle.std.proofs.lemmas.List.{append_cancel_left, length-append, append-nil}
use Rattle.xml_grammar.specs.Digits.{Digits}
use Rattle.xml_grammar.specs.Rules.{Event, Begin, Mark, AllPass, char_run, LacksWord, char_run_without, IsNumberSoFar, number_of_digits, number}
use Rattle.xml_grammar.specs.TextReading.{Stop, Syntax, Faulty, starts_with_word, take_while, drop_while, read_run}
use Rattle.xml_grammar.specs.readers.RuleReaders.{all_but_last, take_while_without, drop_while_without, read_run_without, number_end, read_digits, read_number}
use Rattle.xml_grammar.specs.ParseResults.{FaultRanking}
use Rattle.xml_grammar.proofs.Exact.{Rest, ahead, regroup, Passed, Later, IsRead, IsStopped, Outcome, Exact}
use Rattle.xml_grammar.proofs.Leaves.{leaf}
use Rattle.xml_grammar.proofs.Heads.{Heads, Not}
use Rattle.xml_grammar.proofs.Fronts.{compare, pass_front, pass_back, starts_is, lacks_front, lacks_short, lacks_step, Ended, ended}

module _ {Kind : Type 0} (faults : FaultRanking Kind) where
  -- Each beginning is a prefix of what is consumed, which continues from there with characters of
  -- the class.
  module _ {A : Type 0} (S : List ℕ → A → Type 0) (P : List ℕ → Type 0) (p : ℕ → Bool) (K : A → Rest Kind) (h : (a : A) → Heads (Not p) (K a)) (text used left : List ℕ) (joined : text ≡ used ++ left) (whole : (v : List ℕ) (a : A) → S v a → P v) (front : (v w : List ℕ) → text ≡ v ++ w → P v → (others : List ℕ) × (used ≡ v ++ others) × AllPass p others) where
    left_by : (v w others : List ℕ) → text ≡ v ++ w → used ≡ v ++ others → w ≡ others ++ left
    left_by v w others j e = append_cancel_left v w (others ++ left) (sym j ∙ joined ∙ ap (λ (z : List ℕ). z ++ left) e ∙ append_assoc v others left)

    -- after a shorter prefix there is nothing of what follows
    short_passed : (a : A) (e : Event Kind) (v u x w others : List ℕ) (c : ℕ) → v ≡ u ++ x → used ≡ u ++ (c ∷ others) → x ++ w ≡ (c ∷ others) ++ left → p c ≡ true → (K a).Meets e x → Passed faults e v used
    short_passed a Begin v u [] w others c j f l t m = omega (arith, ap length j, ap length f, length-append u [], length-append u (c ∷ others))
    short_passed a (Mark k b) v u [] w others c j f l t m = absurd ((h a).none k b m)
    short_passed a e v u (d ∷ x) w others c j f l t m = absurd (let same : d ≡ c = cc in let no : p d ≡ false = (h a).meets e d x m in let yes : p d ≡ true = ap p same ∙ t in cc)

    longest : (v w : List ℕ) → text ≡ v ++ w → P v → length v ≤ length used
    longest v w j m = let f = front v w j m in omega (arith, ap length f.1, length-append v f.0)

    -- there is a whole text there
    module _ (a : A) (spelled : S used a) (same : (b : A) → S used b → b ≡ a) where
      same_at : (v : List ℕ) (b : A) → S v b → v ≡ used → b ≡ a
      same_at v b m e = same b (subst (λ (z : List ℕ). S z b) e m)

      read_by : (others : List ℕ) (b : A) (e : Event Kind) (v u x w : List ℕ) → v ≡ u ++ x → used ≡ u ++ others → x ++ w ≡ others ++ left → AllPass p others → S u b → (K b).Meets e x → Passed faults e v used ⊎ Later faults (K a) e v used
      read_by [] b e v u x w j f l t s m =
          let at : u ≡ used = sym (f ∙ append-nil u) in
          inr (x, j ∙ ap (λ (z : List ℕ). z ++ x) at, subst (λ (z : A). (K z).Meets e x) (same_at u b s at) m)
      read_by (c ∷ os) b e v u x w j f l t s m = inl (short_passed b e v u x w os c j f l t.0 m)

      unique_by : (others : List ℕ) (b : A) (v w : List ℕ) → used ≡ v ++ others → w ≡ others ++ left → AllPass p others → S v b → (K b).Whole w → (v ≡ used) × (b ≡ a)
      unique_by [] b v w f l t s m = let at : v ≡ used = sym (f ∙ append-nil v) in (at, same_at v b s at)
      unique_by (c ∷ os) b v w f l t s m = absurd (let no : p c ≡ false = (h b).whole c (os ++ left) (subst (K b).Whole l m) in let yes = t.0 in cc)

      settled_read : (e : Event Kind) (v w : List ℕ) → text ≡ v ++ w → (ahead (leaf S P) K).Meets e v → Passed faults e v used ⊎ Later faults (K a) e v used
      settled_read Begin v w j (inl m) = inl (longest v w j m)
      settled_read (Mark k b) v w j (inl m) = elim m [ ]
      settled_read e v w j (inr m) =
          let sp = m.1 in
          let at = regroup w sp.front sp.back j sp.joined in
          let f = front sp.front (sp.back ++ w) at (whole sp.front m.0 sp.front_is) in
          read_by f.0 m.0 e v sp.front sp.back w sp.joined f.1 (left_by sp.front (sp.back ++ w) f.0 at f.1) f.2 sp.front_is sp.back_is

      pub greedy_read : IsRead faults (leaf S P) K text a left
      greedy_read = record {
        used = used;
        joined = joined;
        spelled = spelled;
        settled = settled_read;
        unique = λ v w b j s m. let f = front v w j (whole v b s) in unique_by f.0 b v w f.1 (left_by v w f.0 j f.1) f.2 s m;
      }

    -- there is no whole text there, or the class continues
    module _ (begun : P used) (unfit : (b : A) → S used b → (c : ℕ) × (rest : List ℕ) × (left ≡ c ∷ rest) × (p c ≡ true)) where
      unfit_at : (u : List ℕ) (b : A) → S u b → u ≡ used → (c : ℕ) × (rest : List ℕ) × (left ≡ c ∷ rest) × (p c ≡ true)
      unfit_at u b s e = unfit b (subst (λ (z : List ℕ). S z b) e s)

      -- at the end of what is consumed there is nothing of what follows
      end_passed : (b : A) (e : Event Kind) (v u x w : List ℕ) (c : ℕ) (rest : List ℕ) → v ≡ u ++ x → u ≡ used → x ++ w ≡ c ∷ rest → p c ≡ true → (K b).Meets e x → Passed faults e v used
      end_passed b Begin v u [] w c rest j at l t m = omega (arith, ap length j, ap length at, length-append u [])
      end_passed b (Mark k d) v u [] w c rest j at l t m = absurd ((h b).none k d m)
      end_passed b e v u (y ∷ ys) w c rest j at l t m = absurd (let same : y ≡ c = cc in let no : p y ≡ false = (h b).meets e y ys m in let yes : p y ≡ true = ap p same ∙ t in cc)

      stopped_by : (others : List ℕ) (b : A) (e : Event Kind) (v u x w : List ℕ) → v ≡ u ++ x → used ≡ u ++ others → x ++ w ≡ others ++ left → AllPass p others → S u b → (K b).Meets e x → Passed faults e v used
      stopped_by [] b e v u x w j f l t s m =
          let at : u ≡ used = sym (f ∙ append-nil u) in
          let g = unfit_at u b s at in
          end_passed b e v u x w g.0 g.1 j at (l ∙ g.2) g.3 m
      stopped_by (c ∷ os) b e v u x w j f l t s m = short_passed b e v u x w os c j f l t.0 m

      none_by : (others : List ℕ) (b : A) (v w : List ℕ) → used ≡ v ++ others → w ≡ others ++ left → AllPass p others → S v b → (K b).Whole w → ⊥
      none_by [] b v w f l t s m =
          let g = unfit_at v b s (sym (f ∙ append-nil v)) in
          let no : p g.0 ≡ false = (h b).whole g.0 g.1 (subst (K b).Whole (l ∙ g.2) m) in let yes = g.3 in absurd cc
      none_by (c ∷ os) b v w f l t s m = let no : p c ≡ false = (h b).whole c (os ++ left) (subst (K b).Whole l m) in let yes = t.0 in absurd cc

      settled_stopped : (e : Event Kind) (v w : List ℕ) → text ≡ v ++ w → (ahead (leaf S P) K).Meets e v → Passed faults e v used
      settled_stopped Begin v w j (inl m) = longest v w j m
      settled_stopped (Mark k d) v w j (inl m) = elim m [ ]
      settled_stopped e v w j (inr m) =
          let sp = m.1 in
          let at = regroup w sp.front sp.back j sp.joined in
          let f = front sp.front (sp.back ++ w) at (whole sp.front m.0 sp.front_is) in
          stopped_by f.0 m.0 e v sp.front sp.back w sp.joined f.1 (left_by sp.front (sp.back ++ w) f.0 at f.1) f.2 sp.front_is sp.back_is

      pub greedy_stopped : IsStopped faults (leaf S P) K text left
      greedy_stopped = record {
        used = used;
        joined = joined;
        begun = begun;
        settled = settled_stopped;
        none = λ v w b j s m. let f = front v w j (whole v b s) in none_by f.0 b v w f.1 (left_by v w f.0 j f.1) f.2 s m;
      }

-- what a reader consumes as far as possible: it passes, and with the next character it would not
record Furthest (P : List ℕ → Type 0) (text used left : List ℕ) : Type 0 where
  joined : text ≡ used ++ left
  begun : P used
  stops : (c : ℕ) (more : List ℕ) → left ≡ c ∷ more → P (used ++ (c ∷ [])) → ⊥

-- each prefix of the text that passes is a prefix of it
furthest_front : {P : List ℕ → Type 0} {p : ℕ → Bool} {text used left : List ℕ} → Furthest P text used left → ((u v : List ℕ) → P (u ++ v) → P u) → ((u : List ℕ) → P u → AllPass p u) → (v w : List ℕ) → text ≡ v ++ w → P v → (others : List ℕ) × (used ≡ v ++ others) × AllPass p others
furthest_front {P} {p} {text} {used} {left} h closed pass v w j m = ⊎_elim
    (λ k. (k.0, k.1, pass_back p v k.0 (subst (AllPass p) k.1 (pass used h.begun))))
    (λ k. absurd (h.stops k.c k.next.0 k.next.1 (closed (used ++ (k.c ∷ [])) k.rest (subst P (k.front ∙ sym (append_assoc used (k.c ∷ []) k.rest)) m))))
    (compare v w used left (sym j ∙ h.joined))

-- # Runs

module _ (p : ℕ → Bool) where
  front_joined : (text : List ℕ) → text ≡ take_while p text ++ drop_while p text
  front_joined [] = refl
  front_joined (c ∷ cs) = by_head (p c) (front_joined cs)
    where
      by_head : (b : Bool) → cs ≡ take_while p cs ++ drop_while p cs → c ∷ cs ≡ cond b (c ∷ take_while p cs) [] ++ cond b (drop_while p cs) (c ∷ cs)
      by_head true e = ap (λ (z : List ℕ). c ∷ z) e
      by_head false e = refl

  front_passes : (text : List ℕ) → AllPass p (take_while p text)
  front_passes [] = tt
  front_passes (c ∷ cs) = by_head (p c) refl (front_passes cs)
    where
      by_head : (b : Bool) → p c ≡ b → AllPass p (take_while p cs) → AllPass p (cond b (c ∷ take_while p cs) [])
      by_head true e h = (e, h)
      by_head false e h = tt

  after_stops : (text : List ℕ) (c : ℕ) (more : List ℕ) → drop_while p text ≡ c ∷ more → p c ≡ true → ⊥
  after_stops [] c more j t = absurd cc
  after_stops (d ∷ ds) c more j t = by_head (p d) refl j (λ k. after_stops ds c more k t)
    where
      by_head : (b : Bool) → p d ≡ b → cond b (drop_while p ds) (d ∷ ds) ≡ c ∷ more → (drop_while p ds ≡ c ∷ more → ⊥) → ⊥
      by_head true e k f = f k
      by_head false e k f = let same : d ≡ c = cc in let g : p d ≡ p c = ap p same in absurd cc

  run_furthest : (text : List ℕ) → Furthest (AllPass p) text (take_while p text) (drop_while p text)
  run_furthest text = record {
    joined = front_joined text;
    begun = front_passes text;
    stops = λ c more j h. after_stops text c more j (pass_back p (take_while p text) (c ∷ []) h).0;
  }

-- # Runs without a word

module _ (p : ℕ → Bool) (w : List ℕ) (end : Ended w) (inside : AllPass p w) where
  abbrev Fits : List ℕ → Type 0
  Fits v = AllPass p v × LacksWord w v

  fits_front : (u v : List ℕ) → Fits (u ++ v) → Fits u
  fits_front u v h = (pass_front p u v h.0, lacks_front w u v h.1)

  -- where the word comes, all but its last character is consumed
  at_word : (text rest : List ℕ) → text ≡ w ++ rest → Furthest Fits text (all_but_last w) (drop (length w - 1) text)
  at_word text rest j =
      let whole : text ≡ all_but_last w ++ (end.last ∷ rest) = j ∙ ap (λ (z : List ℕ). z ++ rest) end.joined ∙ append_assoc (all_but_last w) (end.last ∷ []) rest in
      let n : length w - 1 ≡ length (all_but_last w) = omega (arith, end.shorter) in
      let tail : drop (length w - 1) text ≡ end.last ∷ rest = ap (λ (k : ℕ). drop k text) n ∙ ap (drop (length (all_but_last w))) whole ∙ dropped (all_but_last w) (end.last ∷ rest) in
      record {
        joined = whole ∙ ap (λ (z : List ℕ). all_but_last w ++ z) (sym tail);
        begun = (pass_front p (all_but_last w) (end.last ∷ []) (subst (AllPass p) end.joined inside), lacks_short w (all_but_last w) (omega (arith, end.shorter)));
        stops = λ c more k f. let same : end.last ≡ c = cc in f.1 [] [] (ap (λ (z : ℕ). all_but_last w ++ (z ∷ [])) (sym same) ∙ sym end.joined ∙ sym (append-nil w));
      }
    where
      dropped : (u v : List ℕ) → drop (length u) (u ++ v) ≡ v
      dropped [] v = refl
      dropped (c ∷ u) v = dropped u v

  without_step : (c : ℕ) (cs used left : List ℕ) → p c ≡ true → starts_with_word w (c ∷ cs) ≡ false → Furthest Fits cs used left → Furthest Fits (c ∷ cs) (c ∷ used) left
  without_step c cs used left t s h = record {
    joined = ap (λ (z : List ℕ). c ∷ z) h.joined;
    begun = ((t, h.begun.0), lacks_step w c used left (ap (λ (z : List ℕ). starts_with_word w (c ∷ z)) (sym h.joined) ∙ s) h.begun.1);
    stops = λ d more j f. h.stops d more j (f.0.1, λ u x e. f.1 (c ∷ u) x (ap (λ (z : List ℕ). c ∷ z) e));
  }

  some_word : 0 < length w
  some_word = omega (arith, end.shorter)

  without_by : (c : ℕ) (cs : List ℕ) (at passes : Bool) → starts_with_word w (c ∷ cs) ≡ at → p c ≡ passes → Furthest Fits cs (take_while_without p w cs) (drop_while_without p w cs) → Furthest Fits (c ∷ cs) (cond at (all_but_last w) (cond passes (c ∷ take_while_without p w cs) [])) (cond at (drop (length w - 1) (c ∷ cs)) (cond passes (drop_while_without p w cs) (c ∷ cs)))
  without_by c cs true passes s e h = at_word (c ∷ cs) (drop (length w) (c ∷ cs)) (starts_is w (c ∷ cs) s)
  without_by c cs false true s e h = without_step c cs (take_while_without p w cs) (drop_while_without p w cs) e s h
  without_by c cs false false s e h = record {
    joined = refl;
    begun = (tt, lacks_short w [] some_word);
    stops = λ d more j f. let same : c ≡ d = cc in let g : p c ≡ p d = ap p same in let t = f.0.0 in absurd cc;
  }

  without_furthest : (text : List ℕ) → Furthest Fits text (take_while_without p w text) (drop_while_without p w text)
  without_furthest [] = record { joined = refl; begun = (tt, lacks_short w [] some_word); stops = λ c more j f. absurd cc }
  without_furthest (c ∷ cs) = without_by c cs (starts_with_word w (c ∷ cs)) (p c) refl refl (without_furthest cs)

-- # Numbers

module _ (d : Digits) (most : ℕ) where
  abbrev Next : ℕ → ℕ → ℕ
  Next n c = n * d.base + d.value c

  pub digits_pass : (n : ℕ) (v : List ℕ) → IsNumberSoFar d most n v → AllPass d.is_digit v
  digits_pass n [] h = tt
  digits_pass n (c ∷ cs) h = (h.0, digits_pass (Next n c) cs h.2)

  pub digits_front : (n : ℕ) (u v : List ℕ) → IsNumberSoFar d most n (u ++ v) → IsNumberSoFar d most n u
  digits_front n [] v h = tt
  digits_front n (c ∷ u) v h = (h.0, h.1, digits_front (Next n c) u v h.2)

module _ (Kind : Type 0) (d : Digits) (most : ℕ) (p : ℕ → Bool) where
  record Counted (n : ℕ) (any : Bool) (text : List ℕ) (m : ℕ) (left : List ℕ) : Type 0 where
    used : List ℕ
    furthest : Furthest (IsNumberSoFar d most n) text used left
    value : m ≡ number_of_digits d n used
    passed : p m ≡ true
    some : (any ≡ true) ⊎ (0 < length used)

  record Uncounted (n : ℕ) (any : Bool) (text left : List ℕ) : Type 0 where
    used : List ℕ
    furthest : Furthest (IsNumberSoFar d most n) text used left
    unfit : p (number_of_digits d n used) ≡ true → (any ≡ true) ⊎ (0 < length used) → (c : ℕ) × (rest : List ℕ) × (left ≡ c ∷ rest) × (d.is_digit c ≡ true)

  abbrev NumberOutcome : ℕ → Bool → List ℕ → Result (ℕ × List ℕ) (Stop Kind) → Type 0
  NumberOutcome n any text (Ok x) = Counted n any text x.0 x.1
  NumberOutcome n any text (Err (Syntax left)) = Uncounted n any text left
  NumberOutcome n any text (Err (Faulty k left)) = ⊥

  -- no digit is consumed
  stopped : (n : ℕ) (text : List ℕ) → ((c : ℕ) (cs : List ℕ) → text ≡ c ∷ cs → d.is_digit c ≡ true → Next d most n c ≤ most → ⊥) → Furthest (IsNumberSoFar d most n) text [] text
  stopped n text s = record { joined = refl; begun = tt; stops = λ c more j f. s c more j f.0 f.1 }

  end_by : (n : ℕ) (any fits : Bool) (text : List ℕ) → p n ≡ fits → Furthest (IsNumberSoFar d most n) text [] text → NumberOutcome n any text (cond (any && fits) (Ok (n, text)) (Err (Syntax text)))
  end_by n true true text e s = record { used = []; furthest = s; value = refl; passed = e; some = inl refl }
  end_by n true false text e s = record { used = []; furthest = s; unfit = λ t. absurd cc }
  end_by n false fits text e s = record { used = []; furthest = s; unfit = λ t a. ⊎_elim (λ f. absurd cc) (λ lt. absurd (omega arith)) a }

  further : (n c : ℕ) (cs used left : List ℕ) → d.is_digit c ≡ true → Next d most n c ≤ most → Furthest (IsNumberSoFar d most (Next d most n c)) cs used left → Furthest (IsNumberSoFar d most n) (c ∷ cs) (c ∷ used) left
  further n c cs used left t le h = record { joined = ap (λ (z : List ℕ). c ∷ z) h.joined; begun = (t, le, h.begun); stops = λ x more j f. h.stops x more j f.2 }

  digit_step : (n : ℕ) (any : Bool) (c : ℕ) (cs : List ℕ) (out : Result (ℕ × List ℕ) (Stop Kind)) → d.is_digit c ≡ true → Next d most n c ≤ most → NumberOutcome (Next d most n c) true cs out → NumberOutcome n any (c ∷ cs) out
  digit_step n any c cs (Ok x) t le h = record { used = c ∷ h.used; furthest = further n c cs h.used x.1 t le h.furthest; value = h.value; passed = h.passed; some = inr (omega arith) }
  digit_step n any c cs (Err (Syntax left)) t le h = record { used = c ∷ h.used; furthest = further n c cs h.used left t le h.furthest; unfit = λ g _. h.unfit g (inl refl) }
  digit_step n any c cs (Err (Faulty k left)) t le h = h

  digits_by : (n : ℕ) (any : Bool) (c : ℕ) (cs : List ℕ) (b fits : Bool) (out : Result (ℕ × List ℕ) (Stop Kind)) → d.is_digit c ≡ b → nat_le (Next d most n c) most ≡ fits → NumberOutcome (Next d most n c) true cs out → NumberOutcome n any (c ∷ cs) (cond b (cond fits out (Err (Syntax (c ∷ cs)))) (number_end p n any (c ∷ cs)))
  digits_by n any c cs true true out t le h = digit_step n any c cs out t (grind (arith, nat_tests)) h
  digits_by n any c cs true false out t le h = record {
    used = [];
    furthest = stopped n (c ∷ cs) (λ x xs e _ fit. let same : x ≡ c = cc in let f : Next d most n c ≤ most = subst (λ (z : ℕ). Next d most n z ≤ most) same fit in grind (arith, nat_tests));
    unfit = λ g _. (c, cs, refl, t);
  }
  digits_by n any c cs false fits out t le h = end_by n any (p n) (c ∷ cs) refl (stopped n (c ∷ cs) (λ x xs e g _. let same : x ≡ c = cc in let k : d.is_digit x ≡ d.is_digit c = ap d.is_digit same in absurd cc))

  number_read : (text : List ℕ) (n : ℕ) (any : Bool) → NumberOutcome n any text (read_digits d most p n any text)
  number_read [] n any = end_by n any (p n) [] refl (stopped n [] (λ c cs e _ _. absurd cc))
  number_read (c ∷ cs) n any = digits_by n any c cs (d.is_digit c) (nat_le (Next d most n c) most) (read_digits d most p (Next d most n c) true cs) refl refl (number_read cs (Next d most n c) true)

module _ {Kind : Type 0} (faults : FaultRanking Kind) (d : Digits) (most : ℕ) (p : ℕ → Bool) (K : ℕ → Rest Kind) (h : (n : ℕ) → Heads (Not d.is_digit) (K n)) where
  abbrev NumberIs : List ℕ → ℕ → Type 0
  NumberIs text n = IsNumberSoFar d most 0 text × (0 < length text) × (n ≡ number_of_digits d 0 text) × (p n ≡ true)

  number_outcome : (text : List ℕ) (out : Result (ℕ × List ℕ) (Stop Kind)) → NumberOutcome Kind d most p 0 false text out → Outcome faults (number d most p) K text out
  number_outcome text (Ok x) r =
      greedy_read faults NumberIs (IsNumberSoFar d most 0) d.is_digit K h text r.used x.1 r.furthest.joined (λ v a s. s.0) (furthest_front r.furthest (digits_front d most 0) (digits_pass d most 0)) x.0
      (r.furthest.begun, ⊎_elim (λ f. absurd cc) (λ lt. lt) r.some, r.value, r.passed)
      (λ b s. s.2 ∙ sym r.value)
  number_outcome text (Err (Syntax left)) r =
      greedy_stopped faults NumberIs (IsNumberSoFar d most 0) d.is_digit K h text r.used left r.furthest.joined (λ v a s. s.0) (furthest_front r.furthest (digits_front d most 0) (digits_pass d most 0)) r.furthest.begun
      (λ b s. r.unfit (ap p (sym s.2) ∙ s.3) (inr s.1))
  number_outcome text (Err (Faulty k left)) r = elim r [ ]

module _ {Kind : Type 0} {faults : FaultRanking Kind} where
  pub exact_run : {p : ℕ → Bool} {K : List ℕ → Rest Kind} → ((cs : List ℕ) → Heads (Not p) (K cs)) → Exact faults (char_run p) K (read_run p)
  exact_run {p} {K} h = record {
    by = λ text. greedy_read faults (λ v (cs : List ℕ). AllPass p v × (cs ≡ v)) (AllPass p) p K h text (take_while p text) (drop_while p text) (front_joined p text) (λ v a s. s.0) (furthest_front (run_furthest p text) (pass_front p) (λ u m. m)) (take_while p text) (front_passes p text, refl) (λ b s. s.1);
  }

  -- The word is not empty, and its characters are of the class.
  pub exact_run_without : {p : ℕ → Bool} (w : List ℕ) {K : List ℕ → Rest Kind} → 0 < length w → AllPass p w → ((cs : List ℕ) → Heads (Not p) (K cs)) → Exact faults (char_run_without p w) K (read_run_without p w)
  exact_run_without {p} w {K} some inside h =
      let end = ended w some in
      record {
        by = λ text. let f = without_furthest p w end inside text in
            greedy_read faults (λ v (cs : List ℕ). AllPass p v × LacksWord w v × (cs ≡ v)) (λ v. AllPass p v × LacksWord w v) p K h text (take_while_without p w text) (drop_while_without p w text) f.joined (λ v a s. (s.0, s.1)) (furthest_front f (fits_front p w end inside) (λ u m. m.0)) (take_while_without p w text) (f.begun.0, f.begun.1, refl) (λ b s. s.2);
      }

  pub exact_number : (d : Digits) (most : ℕ) (p : ℕ → Bool) {K : ℕ → Rest Kind} → ((n : ℕ) → Heads (Not d.is_digit) (K n)) → Exact faults (number d most p) K (read_number d most p)
  exact_number d most p {K} h = record { by = λ text. number_outcome faults d most p K h text (read_number d most p text) (number_read Kind d most p text 0 false) }
