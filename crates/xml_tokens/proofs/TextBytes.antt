-- The characters of a text by its bytes: runs, ASCII characters at the front, and bytes that all
-- pass a test.
use Rattle.std.proofs.Common.{◌≡◌, ℕ, suc, ◌+◌, ◌-◌, ◌<◌, ◌≤◌, Bool, true, false, cond, List, [], ◌∷◌, ◌++◌, ◌&&◌, length, take, drop, get_or, chars, encode_utf8_all, IsUtf8, refl, sym, ap, subst, ◌∙◌, length-append, arith}
use lib.Utf8.{encode}
use Rattle.std.specs.Prelude.{nat_lt}
use Rattle.std.specs.List.{list_all}
use Rattle.std.specs.Str.{IsAscii, IsCharBoundary}
use Rattle.std.proofs.lemmas.Bool.{and_parts, leb-false, lt-ltb, ltb-false, ltb-true}
use Rattle.std.proofs.lemmas.List.{append_cancel_right, append-nil, take-append-le}
use Rattle.std.proofs.Math.Seq.{take-length}
use Rattle.std.proofs.lemmas.List.Folds.{list_all-append}
use Rattle.std.proofs.lemmas.Str.{chars-nil, chars-append, encode_ascii, encodes-chars, inside_one, length-le-encodes, IsUtf8-from_ascii, IsCharBoundary-from_take}
use Rattle.std.proofs.lemmas.Str.Ascii.{IsAscii-nil, IsAscii-cons}
use Rattle.xml_grammar.specs.TextReading.{first_char_is, take_while, drop_while}
use Rattle.xml_tokens.specs.readers.CharacterRuns.{run_len}
use Rattle.xml_tokens.specs.readers.Classes.{is_ascii_passing, is_non_ascii}
use Rattle.xml_grammar.proofs.CursorLemmas.{ascii_first}
use Rattle.xml_tokens.proofs.RunLemmas.{take_run, drop_run, run_len_le}

-- no text has more characters than bytes
pub chars_le : (bs : List ℕ) → IsUtf8 bs → length (chars bs) ≤ length bs
chars_le bs u = omega (arith, length-le-encodes (chars bs), ap length (encodes-chars bs u))

-- # Runs

pub all_front : (p : ℕ → Bool) (xs : List ℕ) → list_all p (take_while p xs) ≡ true
all_front p [] = refl
all_front p (c ∷ cs) = by (p c) refl (all_front p cs)
  where
    by : (b : Bool) → p c ≡ b → list_all p (take_while p cs) ≡ true → list_all p (cond b (c ∷ take_while p cs) []) ≡ true
    by true e more = rw e more
    by false e more = refl

pub front_whole : (p : ℕ → Bool) (xs : List ℕ) → xs ≡ take_while p xs ++ drop_while p xs
front_whole p [] = refl
front_whole p (c ∷ cs) = by (p c) (front_whole p cs)
  where
    by : (b : Bool) → cs ≡ take_while p cs ++ drop_while p cs → c ∷ cs ≡ cond b (c ∷ take_while p cs) [] ++ cond b (drop_while p cs) (c ∷ cs)
    by true more = ap (λ (z : List ℕ). c ∷ z) more
    by false more = refl

-- a run by its two parts
pub run_whole : (p : ℕ → Bool) (text front rest : List ℕ) → front ≡ take_while p text → rest ≡ drop_while p text → text ≡ front ++ rest
run_whole p text front rest h i = front_whole p text ∙ ap (λ (z : List ℕ). z ++ drop_while p text) (sym h) ∙ ap (λ (z : List ℕ). front ++ z) (sym i)

pub run_all : (p : ℕ → Bool) (text front : List ℕ) → front ≡ take_while p text → list_all p front ≡ true
run_all p text front h = ap (list_all p) h ∙ all_front p text

after_fails : (p : ℕ → Bool) (xs : List ℕ) → first_char_is p (drop_while p xs) ≡ false
after_fails p [] = refl
after_fails p (c ∷ cs) = by (p c) refl (after_fails p cs)
  where
    by : (b : Bool) → p c ≡ b → first_char_is p (drop_while p cs) ≡ false → first_char_is p (cond b (drop_while p cs) (c ∷ cs)) ≡ false
    by true e more = more
    by false e more = e

pub run_stays : (p : ℕ → Bool) (xs : List ℕ) → first_char_is p xs ≡ false → drop_while p xs ≡ xs
run_stays p [] h = refl
run_stays p (c ∷ cs) h = rw h refl

pub run_goes_on : (p : ℕ → Bool) (xs cs : List ℕ) (c : ℕ) → xs ≡ c ∷ cs → p c ≡ true → drop_while p xs ≡ drop_while p cs
run_goes_on p xs cs c is h = ap (drop_while p) is ∙ rw h refl

pub run_stops : (p : ℕ → Bool) (xs cs : List ℕ) (c : ℕ) → xs ≡ c ∷ cs → p c ≡ false → drop_while p xs ≡ xs
run_stops p xs cs c is h = run_stays p xs (ap (first_char_is p) is ∙ h)

pub run_over : (p : ℕ → Bool) (xs : List ℕ) → xs ≡ [] → drop_while p xs ≡ xs
run_over p xs is = ap (drop_while p) is ∙ sym is

-- # ASCII characters at the front

all_in_ascii : (p : ℕ → Bool) (xs : List ℕ) → list_all (is_ascii_passing p) xs ≡ true → IsAscii xs
all_in_ascii p [] h = IsAscii-nil
all_in_ascii p (c ∷ cs) h =
    let both = and_parts (is_ascii_passing p c) (list_all (is_ascii_passing p) cs) h in
    let one = and_parts (nat_lt c 128) (p c) both.0 in
    IsAscii-cons c cs (ltb-true c 128 one.0) (all_in_ascii p cs both.1)

ascii_after : (p : ℕ → Bool) (bs : List ℕ) → drop_while p (chars bs) ≡ drop_while p (chars (drop_while (is_ascii_passing p) bs))
ascii_after p [] = refl
ascii_after p (b ∷ bs) = by (is_ascii_passing p b) refl (ascii_after p bs)
  where
    by : (z : Bool) → is_ascii_passing p b ≡ z → drop_while p (chars bs) ≡ drop_while p (chars (drop_while (is_ascii_passing p) bs)) → drop_while p (chars (b ∷ bs)) ≡ drop_while p (chars (cond z (drop_while (is_ascii_passing p) bs) (b ∷ bs)))
    by true e more = let both = and_parts (nat_lt b 128) (p b) e in run_goes_on p (chars (b ∷ bs)) (chars bs) b (ascii_first b bs (ltb-true b 128 both.0)) both.1 ∙ more
    by false e more = refl

head_fails : (p : ℕ → Bool) (bs : List ℕ) → first_char_is (is_ascii_passing p) bs ≡ false → first_char_is is_non_ascii bs ≡ false → first_char_is p (chars bs) ≡ false
head_fails p [] h w = ap (first_char_is p) chars-nil
head_fails p (b ∷ bs) h w =
    let low : b < 128 = leb-false 128 b w in
    let fails : p b ≡ false = rw (lt-ltb b 128 low) at h in
    ap (first_char_is p) (ascii_first b bs low) ∙ fails

module _ (p : ℕ → Bool) (bs : List ℕ) (n : ℕ) (is : n ≡ run_len (is_ascii_passing p) bs) where
  -- a text may be split after them
  pub ascii_cut : IsUtf8 bs → IsCharBoundary bs n
  ascii_cut u =
      let le : n ≤ length bs = omega (arith, is, run_len_le (is_ascii_passing p) bs) in
      let front : take n bs ≡ take_while (is_ascii_passing p) bs = ap (λ (k : ℕ). take k bs) is ∙ take_run (is_ascii_passing p) bs in
      let ascii : IsAscii (take n bs) = subst IsAscii (sym front) (all_in_ascii p (take_while (is_ascii_passing p) bs) (all_front (is_ascii_passing p) bs)) in
      IsCharBoundary-from_take bs n u le (IsUtf8-from_ascii (take n bs) ascii)

  left_is : (rest : List ℕ) → rest ≡ drop n bs → rest ≡ drop_while (is_ascii_passing p) bs
  left_is rest left = left ∙ ap (λ (k : ℕ). drop k bs) is ∙ drop_run (is_ascii_passing p) bs

  pub behind_ascii : (rest : List ℕ) → rest ≡ drop n bs → drop_while p (chars bs) ≡ drop_while p (chars rest)
  behind_ascii rest left = ascii_after p bs ∙ ap (λ (z : List ℕ). drop_while p (chars z)) (sym (left_is rest left))

  pub behind_run : (rest : List ℕ) → rest ≡ drop n bs → first_char_is is_non_ascii rest ≡ false → chars rest ≡ drop_while p (chars bs)
  behind_run rest left w =
      let fails : first_char_is (is_ascii_passing p) rest ≡ false = ap (first_char_is (is_ascii_passing p)) (left_is rest left) ∙ after_fails (is_ascii_passing p) bs in
      sym (behind_ascii rest left ∙ run_stays p (chars rest) (head_fails p rest fails w))

-- a prefix by what follows it
pub front_by_rest : (whole front other rest : List ℕ) → whole ≡ front ++ rest → whole ≡ other ++ rest → front ≡ other
front_by_rest whole front other rest h i = append_cancel_right front other rest (sym h ∙ i)

-- # A text that begins with the bytes of another

module _ (text front : List ℕ) (u : IsUtf8 text) (v : IsUtf8 front) (whole : text ≡ front ++ drop (length front) text) where
  fits : length front ≤ length text
  fits = omega (arith, ap length whole, length-append front (drop (length front) text))

  taken : take (length front) text ≡ front
  taken =
      let le : length front ≤ length front = omega arith in
      ap (take (length front)) whole ∙ (take-append-le (length front) front (drop (length front) text) le ∙ take-length front)

  pub fronted_cut : IsCharBoundary text (length front)
  fronted_cut = IsCharBoundary-from_take text (length front) u fits (subst IsUtf8 (sym taken) v)

  pub fronted_chars : chars text ≡ chars front ++ chars (drop (length front) text)
  fronted_chars = ap chars whole ∙ chars-append front (drop (length front) text) v

-- # Bytes that all pass

module _ (p : ℕ → Bool) (high : (c : ℕ) → 128 ≤ c → p c ≡ true) where
  all_at : (xs : List ℕ) → ((k : ℕ) → k < length xs → p (get_or xs k 0) ≡ true) → list_all p xs ≡ true
  all_at [] each = refl
  all_at (x ∷ xs) each =
      let first : p x ≡ true = each 0 (omega arith) in
      let others : (k : ℕ) → k < length xs → p (get_or xs k 0) ≡ true = λ k lt. each (suc k) (omega (arith, lt)) in
      rw first (all_at xs others)

  byte_by : (c k : ℕ) (b : Bool) → 128 ≤ c → k < length (encode c) → nat_lt (get_or (encode c) k 0) 128 ≡ b → p (get_or (encode c) k 0) ≡ true
  byte_by c k true wide lt e =
      let low : get_or (encode c) k 0 < 128 = ltb-true (get_or (encode c) k 0) 128 e in
      let same : c ≡ get_or (encode c) k 0 = inside_one c [] (encode c) k (sym (append-nil (encode c))) lt low in
      absurd (omega (arith, wide, low, same))
  byte_by c k false wide lt e = high (get_or (encode c) k 0) (ltb-false (get_or (encode c) k 0) 128 e)

  encode_by : (c : ℕ) (b : Bool) → nat_lt c 128 ≡ b → list_all p (encode c) ≡ p c
  encode_by c true e = ap (list_all p) (encode_ascii c (ltb-true c 128 e)) ∙ and_true (p c)
    where
      and_true : (b : Bool) → (b && true) ≡ b
      and_true true = refl
      and_true false = refl
  encode_by c false e =
      let wide : 128 ≤ c = ltb-false c 128 e in
      all_at (encode c) (λ k lt. byte_by c k (nat_lt (get_or (encode c) k 0) 128) wide lt refl) ∙ sym (high c wide)

  encodes_pass : (cs : List ℕ) → list_all p (encode_utf8_all cs) ≡ list_all p cs
  encodes_pass [] = refl
  encodes_pass (c ∷ cs) = list_all-append p (encode c) (encode_utf8_all cs) ∙ rw (encode_by c (nat_lt c 128) refl, encodes_pass cs) refl

  -- where all that isn't ASCII passes, the bytes of a text pass exactly if its characters pass
  pub all_by_bytes : (bs : List ℕ) → IsUtf8 bs → list_all p bs ≡ list_all p (chars bs)
  all_by_bytes bs u = ap (list_all p) (sym (encodes-chars bs u)) ∙ encodes_pass (chars bs)
