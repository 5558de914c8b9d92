-- Texts have the same order by their characters and by the bytes of their UTF-8.
use Rattle.std.proofs.Common.{◌≡◌, Ordering, Less, Equal, Greater, ◌⊎◌, inl, inr, ℕ, ◌+◌, ◌/◌, ◌%◌, ◌<◌, ◌≤◌, List, [], ◌∷◌, ◌++◌, encode_utf8_all, refl, sym, ap, ◌∙◌, arith}
use Rattle.std.specs.Cmp.Lexicographic.{slice_cmp, nat_list_cmp_total}
use Rattle.std.specs.Ordering.{nat_cmp, ordering_then, ordering_reverse}
use Rattle.std.proofs.lemmas.Bool.Decides.{nat_tests}
use Rattle.std.proofs.lemmas.Str.{encode_ascii}
use lib.Utf8.{encode}

abbrev pub order : List ℕ → List ℕ → Ordering
order = slice_cmp nat_cmp

-- ---- numbers
less_is : (x y : ℕ) → x < y → nat_cmp x y ≡ Less
less_is x y h = grind (arith, nat_tests)

equal_is : (x : ℕ) → nat_cmp x x ≡ Equal
equal_is x = grind (arith, nat_tests)

pub three_ways : (x y : ℕ) → (x < y) ⊎ ((x ≡ y) ⊎ (y < x))
three_ways x y = grind arith

-- ---- one number first
less_first : (x y : ℕ) (xs ys : List ℕ) → x < y → order (x ∷ xs) (y ∷ ys) ≡ Less
less_first x y xs ys h = ap (λ o. ordering_then o (order xs ys)) (less_is x y h)

same_first : (x y : ℕ) (xs ys : List ℕ) → x ≡ y → order (x ∷ xs) (y ∷ ys) ≡ order xs ys
same_first x y xs ys e = ap (λ z. ordering_then (nat_cmp x z) (order xs ys)) (sym e) ∙ ap (λ o. ordering_then o (order xs ys)) (equal_is x)

pub same_front : (xs a b : List ℕ) → order (xs ++ a) (xs ++ b) ≡ order a b
same_front [] a b = refl
same_front (x ∷ xs) a b = same_first x x (xs ++ a) (xs ++ b) refl ∙ same_front xs a b

-- ---- numbers in digits of 64
abbrev pub next : ℕ → ℕ
next x = 128 + x % 64

digits : (x y : ℕ) → x < y → (x / 64 < y / 64) ⊎ ((x / 64 ≡ y / 64) × (x % 64 < y % 64))
digits x y h = grind arith

twice : (x : ℕ) → x / 4096 ≡ x / 64 / 64
twice x = omega arith

thrice : (x : ℕ) → x / 262144 ≡ x / 64 / 4096
thrice x = omega arith

two : (k x y : ℕ) (r t : List ℕ) → x < y → order ((k + x / 64) ∷ next x ∷ r) ((k + y / 64) ∷ next y ∷ t) ≡ Less
two k x y r t h =
    elim (digits x y h) [
      | inl high ↦ less_first (k + x / 64) (k + y / 64) (next x ∷ r) (next y ∷ t) (omega (arith, high))
      | inr low ↦
          same_first (k + x / 64) (k + y / 64) (next x ∷ r) (next y ∷ t) (ap (λ n. k + n) low.0) ∙ less_first (next x) (next y) r t (omega (arith, low.1))
    ]

three : (k x y : ℕ) (r t : List ℕ) → x < y → order ((k + x / 4096) ∷ next (x / 64) ∷ next x ∷ r) ((k + y / 4096) ∷ next (y / 64) ∷ next y ∷ t) ≡ Less
three k x y r t h =
    elim (digits x y h) [
      | inl high ↦ rw (twice x, twice y) (two k (x / 64) (y / 64) (next x ∷ r) (next y ∷ t) high)
      | inr low ↦
          same_first (k + x / 4096) (k + y / 4096) (next (x / 64) ∷ next x ∷ r) (next (y / 64) ∷ next y ∷ t) (tops low.0)
          ∙ same_first (next (x / 64)) (next (y / 64)) (next x ∷ r) (next y ∷ t) (ap next low.0) ∙ less_first (next x) (next y) r t (omega (arith, low.1))
    ]
  where
    tops : x / 64 ≡ y / 64 → k + x / 4096 ≡ k + y / 4096
    tops e = rw (twice x, twice y) (ap (λ n. k + n / 64) e)

four : (k x y : ℕ) (r t : List ℕ) → x < y
    → order ((k + x / 262144) ∷ next (x / 4096) ∷ next (x / 64) ∷ next x ∷ r) ((k + y / 262144) ∷ next (y / 4096) ∷ next (y / 64) ∷ next y ∷ t) ≡ Less
four k x y r t h =
    elim (digits x y h) [
      | inl high ↦ rw (thrice x, thrice y, twice x, twice y) (three k (x / 64) (y / 64) (next x ∷ r) (next y ∷ t) high)
      | inr low ↦
          same_first (k + x / 262144) (k + y / 262144) (next (x / 4096) ∷ next (x / 64) ∷ next x ∷ r) (next (y / 4096) ∷ next (y / 64) ∷ next y ∷ t) (tops low.0)
          ∙ same_first (next (x / 4096)) (next (y / 4096)) (next (x / 64) ∷ next x ∷ r) (next (y / 64) ∷ next y ∷ t) (middles low.0)
          ∙ same_first (next (x / 64)) (next (y / 64)) (next x ∷ r) (next y ∷ t) (ap next low.0) ∙ less_first (next x) (next y) r t (omega (arith, low.1))
    ]
  where
    tops : x / 64 ≡ y / 64 → k + x / 262144 ≡ k + y / 262144
    tops e = rw (thrice x, thrice y) (ap (λ n. k + n / 4096) e)

    middles : x / 64 ≡ y / 64 → next (x / 4096) ≡ next (y / 4096)
    middles e = rw (twice x, twice y) (ap (λ n. next (n / 64)) e)

-- ---- the bytes of a character, by how many they are
pub encode_two : (c : ℕ) → 128 ≤ c → c < 2048 → encode c ≡ (192 + c / 64) ∷ next c ∷ []
unfolding encode
encode_two c low high = grind (arith, nat_tests)

pub encode_three : (c : ℕ) → 2048 ≤ c → c < 65536 → encode c ≡ (224 + c / 4096) ∷ next (c / 64) ∷ next c ∷ []
unfolding encode
encode_three c low high = grind (arith, nat_tests)

pub encode_four : (c : ℕ) → 65536 ≤ c → encode c ≡ (240 + c / 262144) ∷ next (c / 4096) ∷ next (c / 64) ∷ next c ∷ []
unfolding encode
encode_four c low = grind (arith, nat_tests)

pub data Width (c : ℕ) : Type 0 where
  of_one : c < 128 → Width c
  of_two : 128 ≤ c → c < 2048 → Width c
  of_three : 2048 ≤ c → c < 65536 → Width c
  of_four : 65536 ≤ c → Width c

least : (c n : ℕ) → (c < n) ⊎ (n ≤ c)
least c n = grind arith

pub width : (c : ℕ) → Width c
width c =
    elim (least c 128) [
      | inl a ↦ of_one a
      | inr a ↦ elim (least c 2048) [ inl b ↦ of_two a b | inr b ↦ elim (least c 65536) [ inl d ↦ of_three b d | inr d ↦ of_four d ] ]
    ]

leads : (c d : ℕ) (r t : List ℕ) (a b : ℕ) (us vs : List ℕ) → encode c ≡ a ∷ us → encode d ≡ b ∷ vs → a < b → order (encode c ++ r) (encode d ++ t) ≡ Less
leads c d r t a b us vs e f h = rw (e, f) (less_first a b (us ++ r) (vs ++ t) h)

-- the lesser character has the lesser bytes, whatever follows
below : (c d : ℕ) (r t : List ℕ) → c < d → Width c → Width d → order (encode c ++ r) (encode d ++ t) ≡ Less
below c d r t h (of_one a) (of_one b) = leads c d r t c d _ _ (encode_ascii c a) (encode_ascii d b) (omega arith)
below c d r t h (of_one a) (of_two b1 b2) = leads c d r t c (192 + d / 64) _ _ (encode_ascii c a) (encode_two d b1 b2) (omega arith)
below c d r t h (of_one a) (of_three b1 b2) = leads c d r t c (224 + d / 4096) _ _ (encode_ascii c a) (encode_three d b1 b2) (omega arith)
below c d r t h (of_one a) (of_four b) = leads c d r t c (240 + d / 262144) _ _ (encode_ascii c a) (encode_four d b) (omega arith)
below c d r t h (of_two a1 a2) (of_one b) = absurd (omega arith)
below c d r t h (of_two a1 a2) (of_two b1 b2) = rw (encode_two c a1 a2, encode_two d b1 b2) (two 192 c d r t h)
below c d r t h (of_two a1 a2) (of_three b1 b2) = leads c d r t (192 + c / 64) (224 + d / 4096) _ _ (encode_two c a1 a2) (encode_three d b1 b2) (omega arith)
below c d r t h (of_two a1 a2) (of_four b) = leads c d r t (192 + c / 64) (240 + d / 262144) _ _ (encode_two c a1 a2) (encode_four d b) (omega arith)
below c d r t h (of_three a1 a2) (of_one b) = absurd (omega arith)
below c d r t h (of_three a1 a2) (of_two b1 b2) = absurd (omega arith)
below c d r t h (of_three a1 a2) (of_three b1 b2) = rw (encode_three c a1 a2, encode_three d b1 b2) (three 224 c d r t h)
below c d r t h (of_three a1 a2) (of_four b) = leads c d r t (224 + c / 4096) (240 + d / 262144) _ _ (encode_three c a1 a2) (encode_four d b) (omega arith)
below c d r t h (of_four a) (of_one b) = absurd (omega arith)
below c d r t h (of_four a) (of_two b1 b2) = absurd (omega arith)
below c d r t h (of_four a) (of_three b1 b2) = absurd (omega arith)
below c d r t h (of_four a) (of_four b) = rw (encode_four c a, encode_four d b) (four 240 c d r t h)

encode_less : (c d : ℕ) (r t : List ℕ) → c < d → order (encode c ++ r) (encode d ++ t) ≡ Less
encode_less c d r t h = below c d r t h (width c) (width d)

some_bytes : (c : ℕ) (r : List ℕ) → Width c → order [] (encode c ++ r) ≡ Less
some_bytes c r (of_one a) = rw (encode_ascii c a) refl
some_bytes c r (of_two a b) = rw (encode_two c a b) refl
some_bytes c r (of_three a b) = rw (encode_three c a b) refl
some_bytes c r (of_four a) = rw (encode_four c a) refl

turned : (xs ys : List ℕ) → order ys xs ≡ Less → order xs ys ≡ Greater
turned xs ys h = nat_list_cmp_total.antisymm xs ys ∙ ap ordering_reverse h

-- ---- texts
pub order-encodes : (xs ys : List ℕ) → order (encode_utf8_all xs) (encode_utf8_all ys) ≡ order xs ys
order-encodes [] [] = refl
order-encodes [] (y ∷ ys) = some_bytes y (encode_utf8_all ys) (width y)
order-encodes (x ∷ xs) [] = turned (encode x ++ encode_utf8_all xs) [] (some_bytes x (encode_utf8_all xs) (width x))
order-encodes (x ∷ xs) (y ∷ ys) =
    elim (three_ways x y) [
      | inl less ↦ encode_less x y (encode_utf8_all xs) (encode_utf8_all ys) less ∙ sym (less_first x y xs ys less)
      | inr other ↦ elim other [
        | inl same ↦
            ap (λ z. order (encode x ++ encode_utf8_all xs) (encode z ++ encode_utf8_all ys)) (sym same)
            ∙ same_front (encode x) (encode_utf8_all xs) (encode_utf8_all ys) ∙ order-encodes xs ys ∙ sym (same_first x y xs ys same)
        | inr more ↦
            turned (encode x ++ encode_utf8_all xs) (encode y ++ encode_utf8_all ys) (encode_less y x (encode_utf8_all ys) (encode_utf8_all xs) more)
            ∙ sym (turned (x ∷ xs) (y ∷ ys) (less_first y x ys xs more))
      ]
    ]

-- ---- equal texts
pub order_same : (xs : List ℕ) → order xs xs ≡ Equal
order_same [] = refl
order_same (x ∷ xs) = same_first x x xs xs refl ∙ order_same xs

pub order_equal : (xs ys : List ℕ) → order xs ys ≡ Equal → xs ≡ ys
order_equal [] [] h = refl
order_equal [] (y ∷ ys) h = cc
order_equal (x ∷ xs) [] h = cc
order_equal (x ∷ xs) (y ∷ ys) h =
    elim (three_ways x y) [
      | inl less ↦ let z : Less ≡ Equal = sym (less_first x y xs ys less) ∙ h in cc
      | inr other ↦ elim other [
        | inl same ↦ let tails = order_equal xs ys (sym (same_first x y xs ys same) ∙ h) in cc
        | inr more ↦ let z : Greater ≡ Equal = sym (turned (x ∷ xs) (y ∷ ys) (less_first y x ys xs more)) ∙ h in cc
      ]
    ]
