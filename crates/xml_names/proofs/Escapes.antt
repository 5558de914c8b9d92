-- Characters that are written as references: all of them are ASCII, so the bytes of a text can be
-- escaped one by one.
use Rattle.std.proofs.Common.{◌≡◌, ℕ, ◌+◌, ◌/◌, ◌<◌, ◌≤◌, ◌==◌, Bool, true, false, List, [], ◌∷◌, ◌++◌, length, take, get_or, flat_map, encode_utf8_all, refl, sym, ap, ◌∙◌, arith, append-nil}
use Rattle.std.specs.List.{AllByRecursion}
use lib.Utf8.{encode}
use Rattle.std.proofs.lemmas.Str.{encodes-append, encode_ascii}
use Rattle.std.proofs.lemmas.Grind.{flat_map-append}
use Rattle.std.proofs.lemmas.List.{take_more}
use Rattle.std.proofs.lemmas.Bool.Decides.{nat_tests}
use Rattle.xml_names.specs.Markup.{text_escape, value_escape}
use Rattle.xml_names.proofs.ByteOrder.{next, Width, of_one, of_two, of_three, of_four, width, encode_two, encode_three, encode_four}

module _ (f : ℕ → List ℕ) (low : (c : ℕ) → c < 128 → encode_utf8_all (f c) ≡ f c) (high : (c : ℕ) → 128 ≤ c → f c ≡ c ∷ []) where
  all_high : (bs : List ℕ) → AllByRecursion (λ b. 128 ≤ b) bs → flat_map f bs ≡ bs
  all_high [] h = refl
  all_high (b ∷ bs) h = rw (high b h.0) (ap (λ l. b ∷ l) (all_high bs h.1))

  one_high : (c : ℕ) (bs : List ℕ) → 128 ≤ c → encode c ≡ bs → AllByRecursion (λ b. 128 ≤ b) bs → encode_utf8_all (f c) ≡ flat_map f (encode c)
  one_high c bs h is all = ap encode_utf8_all (high c h) ∙ append-nil (encode c) ∙ is ∙ sym (all_high bs all) ∙ ap (flat_map f) (sym is)

  one_character : (c : ℕ) → Width c → encode_utf8_all (f c) ≡ flat_map f (encode c)
  one_character c (of_one h) = low c h ∙ sym (append-nil (f c)) ∙ ap (flat_map f) (sym (encode_ascii c h))
  one_character c (of_two h i) = one_high c ((192 + c / 64) ∷ next c ∷ []) h (encode_two c h i) (omega arith, (omega arith, tt))
  one_character c (of_three h i) = one_high c ((224 + c / 4096) ∷ next (c / 64) ∷ next c ∷ []) (omega arith) (encode_three c h i) (omega arith, (omega arith, (omega arith, tt)))
  one_character c (of_four h) =
      one_high c ((240 + c / 262144) ∷ next (c / 4096) ∷ next (c / 64) ∷ next c ∷ []) (omega arith) (encode_four c h)
      (omega arith, (omega arith, (omega arith, (omega arith, tt))))

  -- the bytes of an escaped text are the escaped bytes
  pub encode-escaped : (cs : List ℕ) → encode_utf8_all (flat_map f cs) ≡ flat_map f (encode_utf8_all cs)
  encode-escaped [] = refl
  encode-escaped (c ∷ cs) =
      encodes-append (f c) (flat_map f cs) ∙ ap (λ l. l ++ encode_utf8_all (flat_map f cs)) (one_character c (width c)) ∙ ap (λ l. flat_map f (encode c) ++ l) (encode-escaped cs)
      ∙ sym (flat_map-append f (encode c) (encode_utf8_all cs))

-- ---- the two tables
text_low : (c : ℕ) → c < 128 → encode_utf8_all (text_escape c) ≡ text_escape c
unfolding encode
text_low c h = by (c == 38) refl (c == 60) refl (c == 62) refl (c == 13) refl
  where
    by : (s : Bool) → (c == 38) ≡ s → (t : Bool) → (c == 60) ≡ t → (u : Bool) → (c == 62) ≡ u → (v : Bool) → (c == 13) ≡ v → encode_utf8_all (text_escape c) ≡ text_escape c
    by true e t f u g v k = rw e refl
    by false e true f u g v k = rw (e, f) refl
    by false e false f true g v k = rw (e, f, g) refl
    by false e false f false g true k = rw (e, f, g, k) refl
    by false e false f false g false k = rw (e, f, g, k) (append-nil (encode c) ∙ encode_ascii c h)

text_high : (c : ℕ) → 128 ≤ c → text_escape c ≡ c ∷ []
text_high c h = grind (arith, nat_tests)

value_low : (c : ℕ) → c < 128 → encode_utf8_all (value_escape c) ≡ value_escape c
unfolding encode
value_low c h = by (c == 38) refl (c == 60) refl (c == 34) refl (c == 9) refl (c == 10) refl (c == 13) refl
  where
    by : (s : Bool) → (c == 38) ≡ s → (t : Bool) → (c == 60) ≡ t → (u : Bool) → (c == 34) ≡ u → (v : Bool) → (c == 9) ≡ v → (w : Bool) → (c == 10) ≡ w → (x : Bool) → (c == 13) ≡ x
        → encode_utf8_all (value_escape c) ≡ value_escape c
    by true e t f u g v k w l x m = rw e refl
    by false e true f u g v k w l x m = rw (e, f) refl
    by false e false f true g v k w l x m = rw (e, f, g) refl
    by false e false f false g true k w l x m = rw (e, f, g, k) refl
    by false e false f false g false k true l x m = rw (e, f, g, k, l) refl
    by false e false f false g false k false l true m = rw (e, f, g, k, l, m) refl
    by false e false f false g false k false l false m = rw (e, f, g, k, l, m) (append-nil (encode c) ∙ encode_ascii c h)

value_high : (c : ℕ) → 128 ≤ c → value_escape c ≡ c ∷ []
value_high c h = grind (arith, nat_tests)

pub encode-text : (cs : List ℕ) → encode_utf8_all (flat_map text_escape cs) ≡ flat_map text_escape (encode_utf8_all cs)
encode-text cs = encode-escaped text_escape text_low text_high cs

pub encode-value : (cs : List ℕ) → encode_utf8_all (flat_map value_escape cs) ≡ flat_map value_escape (encode_utf8_all cs)
encode-value cs = encode-escaped value_escape value_low value_high cs

-- ---- bytes that are written as themselves

-- one more after those in front
pub plain_more : (f : ℕ → List ℕ) (bs : List ℕ) (i : ℕ) → i < length bs → flat_map f (take i bs) ≡ take i bs → f (get_or bs i 0) ≡ get_or bs i 0 ∷ [] → flat_map f (take (i + 1) bs) ≡ take (i + 1) bs
plain_more f bs i within so_far one =
    let more = take_more bs i 0 within in
    ap (flat_map f) more ∙ flat_map-append f (take i bs) (get_or bs i 0 ∷ []) ∙ ap (λ l. l ++ (f (get_or bs i 0) ++ [])) so_far ∙ ap (λ l. take i bs ++ (l ++ [])) one ∙ sym more
