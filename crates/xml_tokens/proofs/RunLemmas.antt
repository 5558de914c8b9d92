-- A run, split by its length.
use Rattle.std.proofs.Common.{◌≡◌, ℕ, suc, ◌+◌, ◌-◌, ◌<◌, ◌≤◌, Bool, true, false, cond, ◌&&◌, List, [], ◌∷◌, ◌++◌, length, take, drop, get_or, Result, Ok, Err, refl, sym, ap, subst, ◌∙◌, append_assoc, take-append-drop, eq-eqb, arith, add-one}
use Rattle.std.specs.Prelude.{nat_eq}
use Rattle.std.proofs.lemmas.Bool.{eqb-true}
use Rattle.std.proofs.Math.Seq.{drop-cons, take-length}
use Rattle.std.proofs.lemmas.List.{length-drop, drop_at, take-append-le, append-nil}
use Rattle.xml_grammar.specs.TextReading.{Stop, Syntax, ◌>>=◌, starts_with_word, take_while, drop_while}
use Rattle.xml_grammar.specs.readers.RuleReaders.{all_but_last, take_while_without, drop_while_without, read_up_to}
use Rattle.xml_tokens.specs.declared.fault_kind.FaultKind.{FaultKind}
use Rattle.xml_tokens.specs.readers.CharacterRuns.{run_len}

-- the members so far, before the ones that are read next
abbrev pub with_front : {FaultKind A : Type 0} → List A → Result (List A × List ℕ) (Stop FaultKind) → Result (List A × List ℕ) (Stop FaultKind)
with_front front read = read >>= λ x. Ok (front ++ x.0, x.1)

take_by : (c : ℕ) (cs : List ℕ) (n : ℕ) (front : List ℕ) (b : Bool) → take n cs ≡ front → take (cond b (n + 1) 0) (c ∷ cs) ≡ cond b (c ∷ front) []
take_by c cs n front true e = rw add-one (ap (λ (z : List ℕ). c ∷ z) e)
take_by c cs n front false e = refl

pub take_run : (p : ℕ → Bool) (xs : List ℕ) → take (run_len p xs) xs ≡ take_while p xs
take_run p [] = refl
take_run p (c ∷ cs) = take_by c cs (run_len p cs) (take_while p cs) (p c) (take_run p cs)

drop_by : (c : ℕ) (cs : List ℕ) (n : ℕ) (left : List ℕ) (b : Bool) → drop n cs ≡ left → drop (cond b (n + 1) 0) (c ∷ cs) ≡ cond b left (c ∷ cs)
drop_by c cs n left true e = rw add-one e
drop_by c cs n left false e = refl

pub drop_run : (p : ℕ → Bool) (xs : List ℕ) → drop (run_len p xs) xs ≡ drop_while p xs
drop_run p [] = refl
drop_run p (c ∷ cs) = drop_by c cs (run_len p cs) (drop_while p cs) (p c) (drop_run p cs)

len_by : (n m : ℕ) (b : Bool) → n ≤ m → cond b (n + 1) 0 ≤ suc m
len_by n m true h = omega arith
len_by n m false h = omega arith

pub run_len_le : (p : ℕ → Bool) (xs : List ℕ) → run_len p xs ≤ length xs
run_len_le p [] = omega arith
run_len_le p (c ∷ cs) = len_by (run_len p cs) (length cs) (p c) (run_len_le p cs)

-- one step of a loop
pub run_more : (p : ℕ → Bool) (xs : List ℕ) (i n : ℕ) → i < length xs → n + run_len p (drop i xs) ≡ run_len p xs → p (get_or xs i 0) ≡ true → n + 1 + run_len p (drop (i + 1) xs) ≡ run_len p xs
run_more p xs i n h e t =
    let d : drop i xs ≡ get_or xs i 0 ∷ drop (suc i) xs = drop-cons xs i 0 h in
    let f : run_len p (drop i xs) ≡ run_len p (drop (suc i) xs) + 1 = ap (run_len p) d ∙ rw t refl in
    let g : drop (i + 1) xs ≡ drop (suc i) xs = rw add-one refl in
    omega (arith, f, ap (run_len p) g, e)

pub run_done : (p : ℕ → Bool) (xs : List ℕ) (i n : ℕ) → i < length xs → n + run_len p (drop i xs) ≡ run_len p xs → p (get_or xs i 0) ≡ false → n ≡ run_len p xs
run_done p xs i n h e t =
    let d : drop i xs ≡ get_or xs i 0 ∷ drop (suc i) xs = drop-cons xs i 0 h in
    let f : run_len p (drop i xs) ≡ 0 = ap (run_len p) d ∙ rw t refl in
    omega (arith, f, e)

-- one step of a loop over four bytes
module _ (p : ℕ → Bool) (xs : List ℕ) where
  next : (i j : ℕ) → j ≡ i + 1 → i < length xs → i + run_len p (drop i xs) ≡ run_len p xs → p (get_or xs i 0) ≡ true → j + run_len p (drop j xs) ≡ run_len p xs
  next i j is h e t = subst (λ (k : ℕ). k + run_len p (drop k xs) ≡ run_len p xs) (sym is) (run_more p xs i i h e t)

  module _ (i : ℕ) (h : i + 4 ≤ length xs) (e : i + run_len p (drop i xs) ≡ run_len p xs) where
    pub first_stops : p (get_or xs i 0) ≡ false → i ≡ run_len p xs
    first_stops a = run_done p xs i i (omega (arith, h)) e a

    module _ (a : p (get_or xs i 0) ≡ true) where
      second : i + 1 + run_len p (drop (i + 1) xs) ≡ run_len p xs
      second = next i (i + 1) refl (omega (arith, h)) e a

      pub second_stops : p (get_or xs (i + 1) 0) ≡ false → i + 1 ≡ run_len p xs
      second_stops b = run_done p xs (i + 1) (i + 1) (omega (arith, h)) second b

      module _ (b : p (get_or xs (i + 1) 0) ≡ true) where
        third : i + 2 + run_len p (drop (i + 2) xs) ≡ run_len p xs
        third = next (i + 1) (i + 2) (omega arith) (omega (arith, h)) second b

        pub third_stops : p (get_or xs (i + 2) 0) ≡ false → i + 2 ≡ run_len p xs
        third_stops d = run_done p xs (i + 2) (i + 2) (omega (arith, h)) third d

        module _ (d : p (get_or xs (i + 2) 0) ≡ true) where
          fourth : i + 3 + run_len p (drop (i + 3) xs) ≡ run_len p xs
          fourth = next (i + 2) (i + 3) (omega arith) (omega (arith, h)) third d

          pub fourth_stops : p (get_or xs (i + 3) 0) ≡ false → i + 3 ≡ run_len p xs
          fourth_stops f = run_done p xs (i + 3) (i + 3) (omega (arith, h)) fourth f

          pub four_more : p (get_or xs (i + 3) 0) ≡ true → i + 4 + run_len p (drop (i + 4) xs) ≡ run_len p xs
          four_more f = next (i + 3) (i + 4) (omega arith) (omega (arith, h)) fourth f

pub ruleset four_by_four = (first_stops, second_stops, third_stops, fourth_stops, four_more)

-- a run without a word
starts_by : (c d : ℕ) (cs text : List ℕ) (b : Bool) → nat_eq c d ≡ b → (starts_with_word cs text ≡ true → (rest : List ℕ) × (text ≡ cs ++ rest)) → cond b (starts_with_word cs text) false ≡ true → (rest : List ℕ) × (d ∷ text ≡ c ∷ (cs ++ rest))
starts_by c d cs text true e f h = let r = f h in (r.0, let k = eqb-true c d e in let j = r.1 in cc)
starts_by c d cs text false e f h = absurd cc

pub starts_front : (w text : List ℕ) → starts_with_word w text ≡ true → (rest : List ℕ) × (text ≡ w ++ rest)
starts_front [] text h = (text, refl)
starts_front (c ∷ cs) [] h = absurd cc
starts_front (c ∷ cs) (d ∷ text) h = starts_by c d cs text (nat_eq c d) refl (starts_front cs text) h

take_but_last : (w : List ℕ) → take (length w - 1) w ≡ all_but_last w
take_but_last [] = refl
take_but_last (c ∷ []) = refl
take_but_last (c ∷ d ∷ w) =
    let e : length (c ∷ d ∷ w) - 1 ≡ suc (length (d ∷ w) - 1) = omega arith in
    rw e (ap (λ (z : List ℕ). c ∷ z) (take_but_last (d ∷ w)))

take_front : (w text : List ℕ) → starts_with_word w text ≡ true → take (length w - 1) text ≡ all_but_last w
take_front w text h = let r = starts_front w text h in let le : length w - 1 ≤ length w = omega arith in (ap (take (length w - 1)) r.1 ∙ take-append-le (length w - 1) w r.0 le) ∙ take_but_last w

-- a text is the part before the place and the part after it
found_whole : (w text : List ℕ) → starts_with_word w text ≡ true → text ≡ all_but_last w ++ drop (length w - 1) text
found_whole w text h = sym (take-append-drop (length w - 1) text) ∙ ap (λ (z : List ℕ). z ++ drop (length w - 1) text) (take_front w text h)

whole_by : (a b : Bool) (c : ℕ) (cs w front left : List ℕ) → (a ≡ true → c ∷ cs ≡ all_but_last w ++ drop (length w - 1) (c ∷ cs)) → cs ≡ front ++ left → c ∷ cs ≡ cond a (all_but_last w) (cond b (c ∷ front) []) ++ cond a (drop (length w - 1) (c ∷ cs)) (cond b left (c ∷ cs))
whole_by true b c cs w front left h e = h refl
whole_by false true c cs w front left h e = ap (λ (z : List ℕ). c ∷ z) e
whole_by false false c cs w front left h e = refl

pub without_whole : (p : ℕ → Bool) (w xs : List ℕ) → xs ≡ take_while_without p w xs ++ drop_while_without p w xs
without_whole p w [] = refl
without_whole p w (c ∷ cs) = whole_by (starts_with_word w (c ∷ cs)) (p c) c cs w (take_while_without p w cs) (drop_while_without p w cs) (found_whole w (c ∷ cs)) (without_whole p w cs)

-- one more character, or none
module _ (p : ℕ → Bool) (w xs cs : List ℕ) (c : ℕ) (is : xs ≡ c ∷ cs) where
  here : (b : Bool) → starts_with_word w xs ≡ b → starts_with_word w (c ∷ cs) ≡ b
  here b s = ap (starts_with_word w) (sym is) ∙ s

  pub without_more : starts_with_word w xs ≡ false → p c ≡ true → drop_while_without p w xs ≡ drop_while_without p w cs
  without_more s t = let h = here false s in ap (drop_while_without p w) is ∙ rw (h, t) refl

  pub without_found : starts_with_word w xs ≡ true → drop_while_without p w xs ≡ drop (length w - 1) xs
  without_found s = let h = here true s in ap (drop_while_without p w) is ∙ rw h (ap (drop (length w - 1)) (sym is))

  pub without_stops : starts_with_word w xs ≡ false → p c ≡ false → drop_while_without p w xs ≡ xs
  without_stops s f = let h = here false s in ap (drop_while_without p w) is ∙ rw (h, f) (sym is)

pub without_over : (p : ℕ → Bool) (w xs : List ℕ) → xs ≡ [] → drop_while_without p w xs ≡ xs
without_over p w xs is = ap (drop_while_without p w) is ∙ sym is

pub rest_of_drop : (n : ℕ) (xs : List ℕ) → take (length xs - n) (drop n xs) ≡ drop n xs
rest_of_drop n xs = let e : length xs - n ≡ length (drop n xs) = omega (arith, length-drop n xs) in rw e (take-length (drop n xs))

-- a word in two parts
pub starts_then : (w v text : List ℕ) → starts_with_word (w ++ v) text ≡ (starts_with_word w text && starts_with_word v (drop (length w) text))
starts_then [] v text = refl
starts_then (c ∷ w) v [] = refl
starts_then (c ∷ w) v (d ∷ text) = by (nat_eq c d) (starts_then w v text)
  where
    by : (b : Bool) → starts_with_word (w ++ v) text ≡ (starts_with_word w text && starts_with_word v (drop (length w) text)) → cond b (starts_with_word (w ++ v) text) false ≡ (cond b (starts_with_word w text) false && starts_with_word v (drop (length w) text))
    by true more = more
    by false more = refl

-- a text that begins with the word
pub starts_before : (w left : List ℕ) → starts_with_word w (w ++ left) ≡ true
starts_before [] left = refl
starts_before (c ∷ w) left = let e : nat_eq c c ≡ true = eq-eqb c c refl in rw e (starts_before w left)

-- a run up to a word: the loop that looks for it
no_front : (out : Result (List ℕ × List ℕ) (Stop FaultKind)) → out ≡ with_front [] out
no_front (Ok x) = refl
no_front (Err e) = refl

pub inside_starts : (p : ℕ → Bool) (w text : List ℕ) → read_up_to {Kind = FaultKind} p w text ≡ with_front [] (read_up_to p w text)
inside_starts p w text = no_front (read_up_to p w text)

inside_cons : (front : List ℕ) (c : ℕ) (out : Result (List ℕ × List ℕ) (Stop FaultKind)) → with_front front (out >>= λ x. Ok (c ∷ x.0, x.1)) ≡ with_front (front ++ c ∷ []) out
inside_cons front c (Ok y) = ap (λ (z : List ℕ). Ok (z, y.1)) (sym (append_assoc front (c ∷ []) y.0))
inside_cons front c (Err e) = refl

module _ (p : ℕ → Bool) (w front xs cs : List ℕ) (c : ℕ) (is : xs ≡ c ∷ cs) where
  abbrev Read : List ℕ → Result (List ℕ × List ℕ) (Stop FaultKind)
  Read z = with_front front (read_up_to p w z)

  pub inside_more : starts_with_word w xs ≡ false → p c ≡ true → with_front front (read_up_to {Kind = FaultKind} p w xs) ≡ with_front (front ++ c ∷ []) (read_up_to p w cs)
  inside_more s t =
      let h : starts_with_word w (c ∷ cs) ≡ false = ap (starts_with_word w) (sym is) ∙ s in
      ap Read is ∙ rw (h, t) (inside_cons front c (read_up_to p w cs))

  pub inside_found : (left : List ℕ) → xs ≡ w ++ left → with_front front (read_up_to {Kind = FaultKind} p w xs) ≡ Ok (front, left)
  inside_found left found =
      let h : starts_with_word w (c ∷ cs) ≡ true = ap (starts_with_word w) (sym is ∙ found) ∙ starts_before w left in
      let d : drop (length w) (c ∷ cs) ≡ left = ap (drop (length w)) (sym is ∙ found) ∙ drop_at w left (length w) refl in
      ap Read is ∙ rw h (rw (append-nil front) (ap (λ (z : List ℕ). Ok (front, z)) d))

  pub inside_stops : starts_with_word w xs ≡ false → p c ≡ false → with_front front (read_up_to {Kind = FaultKind} p w xs) ≡ Err (Syntax xs)
  inside_stops s f =
      let h : starts_with_word w (c ∷ cs) ≡ false = ap (starts_with_word w) (sym is) ∙ s in
      ap Read is ∙ rw (h, f) (ap (λ (z : List ℕ). Err (Syntax z)) (sym is))

pub inside_over : (p : ℕ → Bool) (w front xs : List ℕ) → xs ≡ [] → with_front front (read_up_to {Kind = FaultKind} p w xs) ≡ Err (Syntax xs)
inside_over p w front xs is = ap (λ (z : List ℕ). with_front front (read_up_to p w z)) is ∙ ap (λ (z : List ℕ). Err (Syntax z)) (sym is)
