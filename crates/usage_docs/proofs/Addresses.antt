-- Reading an address letter by letter.
use Rattle.std.proofs.Common.{◌≡◌, ℕ, Bool, true, false, List, [], ◌∷◌, ◌&&◌, ◌||◌, not, fold, bytes_eq, IsTrue, refl, ap, sym, ◌∙◌}
use Rattle.std.specs.Prelude.{◌==◌, if◌then◌else◌, codes}
use Rattle.std.specs.List.{list_any, list_all}
use Rattle.std.proofs.lemmas.Bool.{eqb-true}
use Rattle.xml_names.specs.Characters.{is_space}
use Rattle.usage_docs.specs.declared.address_states.AddressState.{AddressState}
use Rattle.usage_docs.specs.declared.address_states.AddressState.TheVariants.{Start, H, Ht, Htt, Http, Https, Colon, Slash, Whole, GoesOn, Other}
use Rattle.usage_docs.specs.readers.AddressStates.{is_trimmed_space, address_state_after, is_whole_address}
use Rattle.usage_docs.specs.ReferenceForms.{is_longer_than_word, is_http_uri, trim_text, trim_front, trim_back}

-- ---- what each state still needs, where `w` are the letters that are ignored at the ends

abbrev run : (ℕ → Bool) → AddressState → List ℕ → Bool
run w a s = is_whole_address (fold (address_state_after w) a s)

-- these letters, and after them one that isn't ignored
abbrev reach : (ℕ → Bool) → List ℕ → List ℕ → Bool
reach w [] s = list_any (λ c. not (w c)) s
reach w (x ∷ xs) [] = false
reach w (x ∷ xs) (c ∷ s) = (c == x) && reach w xs s

other : (w : ℕ → Bool) (s : List ℕ) → run w Other s ≡ false
other w [] = refl
other w (c ∷ s) = other w s

goes : (w : ℕ → Bool) (s : List ℕ) → run w GoesOn s ≡ true
goes w [] = refl
goes w (c ∷ s) = goes w s

whole_step : (w : ℕ → Bool) (b rest : Bool) (s : List ℕ) → run w Whole s ≡ rest → run w (if b then Whole else GoesOn) s ≡ (not b || rest)
whole_step w true rest s h = h
whole_step w false rest s h = goes w s

whole : (w : ℕ → Bool) (s : List ℕ) → run w Whole s ≡ reach w [] s
whole w [] = refl
whole w (c ∷ s) = whole_step w (w c) (reach w [] s) s (whole w s)

expect : (w : ℕ → Bool) (b : Bool) (next : AddressState) (s : List ℕ) (r : Bool) → run w next s ≡ r → run w (if b then next else Other) s ≡ (b && r)
expect w true next s r h = h
expect w false next s r h = other w s

slash : (w : ℕ → Bool) (s : List ℕ) → run w Slash s ≡ reach w (47 ∷ []) s
slash w [] = refl
slash w (c ∷ s) = expect w (c == 47) Whole s _ (whole w s)

colon : (w : ℕ → Bool) (s : List ℕ) → run w Colon s ≡ reach w (47 ∷ 47 ∷ []) s
colon w [] = refl
colon w (c ∷ s) = expect w (c == 47) Slash s _ (slash w s)

https : (w : ℕ → Bool) (s : List ℕ) → run w Https s ≡ reach w (58 ∷ 47 ∷ 47 ∷ []) s
https w [] = refl
https w (c ∷ s) = expect w (c == 58) Colon s _ (colon w s)

or_false : (x : Bool) → x ≡ (x || false)
or_false true = refl
or_false false = refl

and_or : (b x y : Bool) → (b && (x || y)) ≡ ((b && x) || (b && y))
and_or true x y = refl
and_or false x y = refl

no_both : (c : ℕ) → (c == 58) ≡ true → (c == 115) ≡ false
no_both c h = rw (eqb-true c 58 h)

http_step : (w : ℕ → Bool) (b d : Bool) (s : List ℕ) (x y : Bool) → (b ≡ true → d ≡ false) → run w Colon s ≡ x → run w Https s ≡ y → run w (if b then Colon else (if d then Https else Other)) s ≡ ((b && x) || (d && y))
http_step w true true s x y only p q = cc (only refl)
http_step w true false s x y only p q = p ∙ or_false x
http_step w false true s x y only p q = q
http_step w false false s x y only p q = other w s

http : (w : ℕ → Bool) (s : List ℕ) → run w Http s ≡ (reach w (58 ∷ 47 ∷ 47 ∷ []) s || reach w (115 ∷ 58 ∷ 47 ∷ 47 ∷ []) s)
http w [] = refl
http w (c ∷ s) = http_step w (c == 58) (c == 115) s _ _ (no_both c) (colon w s) (https w s)

htt : (w : ℕ → Bool) (s : List ℕ) → run w Htt s ≡ (reach w (112 ∷ 58 ∷ 47 ∷ 47 ∷ []) s || reach w (112 ∷ 115 ∷ 58 ∷ 47 ∷ 47 ∷ []) s)
htt w [] = refl
htt w (c ∷ s) = expect w (c == 112) Http s _ (http w s) ∙ and_or (c == 112) _ _

ht : (w : ℕ → Bool) (s : List ℕ) → run w Ht s ≡ (reach w (116 ∷ 112 ∷ 58 ∷ 47 ∷ 47 ∷ []) s || reach w (116 ∷ 112 ∷ 115 ∷ 58 ∷ 47 ∷ 47 ∷ []) s)
ht w [] = refl
ht w (c ∷ s) = expect w (c == 116) Htt s _ (htt w s) ∙ and_or (c == 116) _ _

h : (w : ℕ → Bool) (s : List ℕ) → run w H s ≡ (reach w (116 ∷ 116 ∷ 112 ∷ 58 ∷ 47 ∷ 47 ∷ []) s || reach w (116 ∷ 116 ∷ 112 ∷ 115 ∷ 58 ∷ 47 ∷ 47 ∷ []) s)
h w [] = refl
h w (c ∷ s) = expect w (c == 116) Ht s _ (ht w s) ∙ and_or (c == 116) _ _

abbrev reaches : (ℕ → Bool) → List ℕ → Bool
reaches w s = reach w (codes "http://") s || reach w (codes "https://") s

start_step : (w : ℕ → Bool) (b : Bool) (c : ℕ) (s : List ℕ) → run w Start s ≡ reaches w (trim_front w s) → run w (if b then Start else (if c == 104 then H else Other)) s ≡ reaches w (if b then trim_front w s else (c ∷ s))
start_step w true c s p = p
start_step w false c s p = expect w (c == 104) H s _ (h w s) ∙ and_or (c == 104) _ _

start : (w : ℕ → Bool) (s : List ℕ) → run w Start s ≡ reaches w (trim_front w s)
start w [] = refl
start w (c ∷ s) = start_step w (w c) c s (start w s)

-- ---- where every letter counts

every : (xs s : List ℕ) → reach (is_trimmed_space false) xs s ≡ is_longer_than_word xs s
every [] [] = refl
every [] (c ∷ s) = refl
every (x ∷ xs) [] = refl
every (x ∷ xs) (c ∷ s) = ap (λ b. (c == x) && b) (every xs s)

untrimmed : (s : List ℕ) → trim_front (is_trimmed_space false) s ≡ s
untrimmed [] = refl
untrimmed (c ∷ s) = refl

either : (p q p' q' : Bool) → p ≡ p' → q ≡ q' → (p || q) ≡ (p' || q')
either p q p' q' e f = cc

pub address_is : (s : List ℕ) → is_whole_address (fold (address_state_after (is_trimmed_space false)) Start s) ≡ is_http_uri s
unfolding is_http_uri
address_is s =
    start (is_trimmed_space false) s ∙ ap (reaches (is_trimmed_space false)) (untrimmed s)
    ∙ either _ _ _ _ (every (codes "http://") s) (every (codes "https://") s)

-- ---- where white space is ignored

black : (w : ℕ → Bool) (x c : ℕ) → IsTrue (not (w x)) → w c ≡ true → (d : Bool) → (c == x) ≡ d → d ≡ false
black w x c out white_c false e = refl
black w x c out white_c true e = let same = eqb-true c x e in let k = ap w same in cc (k, out, white_c)

blank_step : (t : List ℕ) (c : ℕ) → is_longer_than_word [] (if bytes_eq t [] then [] else (c ∷ t)) ≡ is_longer_than_word [] t
blank_step [] c = refl
blank_step (d ∷ t) c = refl

empty_step : (b rest : Bool) (t : List ℕ) (c : ℕ) → is_longer_than_word [] t ≡ rest → is_longer_than_word [] (if b && bytes_eq t [] then [] else (c ∷ t)) ≡ (not b || rest)
empty_step true rest t c e = blank_step t c ∙ e
empty_step false rest t c e = refl

cut_step : (e m r : Bool) (x c : ℕ) (xs t : List ℕ) → (c == x) ≡ false → is_longer_than_word (x ∷ xs) (if e then [] else (c ∷ t)) ≡ ((c == x) && r)
cut_step true m r x c xs t differ = rw differ
cut_step false m r x c xs t differ = rw differ

word_step : (b r : Bool) (x c : ℕ) (xs t : List ℕ) → (b ≡ true → (c == x) ≡ false) → is_longer_than_word xs t ≡ r → is_longer_than_word (x ∷ xs) (if b && bytes_eq t [] then [] else (c ∷ t)) ≡ ((c == x) && r)
word_step true r x c xs t differ e = cut_step (bytes_eq t []) true r x c xs t (differ refl)
word_step false r x c xs t differ e = ap (λ b. (c == x) && b) e

both : (p q : Bool) → IsTrue (p && q) → IsTrue p × IsTrue q
both true true h = (refl, refl)
both true false h = cc
both false q h = cc

first_black : (w : ℕ → Bool) (x : ℕ) (xs : List ℕ) → IsTrue (list_all (λ y. not (w y)) (x ∷ xs)) → IsTrue (not (w x))
first_black w x xs k = (both (not (w x)) (list_all (λ y. not (w y)) xs) k).0

others_black : (w : ℕ → Bool) (x : ℕ) (xs : List ℕ) → IsTrue (list_all (λ y. not (w y)) (x ∷ xs)) → IsTrue (list_all (λ y. not (w y)) xs)
others_black w x xs k = (both (not (w x)) (list_all (λ y. not (w y)) xs) k).1

cut : (w : ℕ → Bool) (xs s : List ℕ) → IsTrue (list_all (λ y. not (w y)) xs) → is_longer_than_word xs (trim_back w s) ≡ reach w xs s
cut w [] [] k = refl
cut w [] (c ∷ s) k = empty_step (w c) (reach w [] s) (trim_back w s) c (cut w [] s k)
cut w (x ∷ xs) [] k = refl
cut w (x ∷ xs) (c ∷ s) k = word_step (w c) (reach w xs s) x c xs (trim_back w s) (λ p. black w x c (first_black w x xs k) p (c == x) refl) (cut w xs s (others_black w x xs k))

pub trimmed_is : (s : List ℕ) → is_whole_address (fold (address_state_after (is_trimmed_space true)) Start s) ≡ is_http_uri (trim_text s)
unfolding is_http_uri trim_text
trimmed_is s =
    let u = trim_front is_space s in
    start is_space s ∙ sym (either _ _ _ _ (cut is_space (codes "http://") u refl) (cut is_space (codes "https://") u refl))
