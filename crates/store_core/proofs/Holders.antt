-- Which document has an address, where the addresses of all documents are distinct.
use Rattle.std.proofs.Common.{◌≡◌, ◌≢◌, ℕ, Bool, true, false, cond, ◌||◌, List, [], ◌∷◌, ◌++◌, Option, None, Some, refl, sym, ap, subst, ◌∙◌, arith}
use Rattle.std.proofs.lemmas.Bool.Decides.{nat_tests}
use Rattle.std.proofs.lemmas.List.Concat.{flat_map-append}
use Rattle.std.proofs.lemmas.List.Folds.{list_any-append}
use Rattle.std.proofs.lemmas.Slice.Eq.{bytes_eq-Decides}
use Rattle.std.specs.List.{AllByRecursion, flat_map}
use Rattle.std.specs.Set.{is_member}
use Rattle.std.specs.Str.{bytes_eq}
use Rattle.store_core.specs.ValidStates.{AreDistinct}
use Rattle.std.specs.Option.{option_or as or_else}
use Rattle.store_core.specs.inner.StoreMemory.{first_holder, is_held_by_other}
use Rattle.store_core.proofs.AdmissionLemmas.{apart-unmix, unlike-all}
use Rattle.store_core.proofs.DistinctItems.{apart-middle, each-weaker}

neither-of : (a b : Bool) → (a || b) ≡ false → (a ≡ false) × (b ≡ false)
neither-of true b h = cc
neither-of false b h = (refl, h)

-- ---- lists of addresses

among-step : (P : List ℕ → Type 0) (u k : List ℕ) (us : List (List ℕ)) (b : Bool) → bytes_eq k u ≡ b → (b || is_member bytes_eq us k) ≡ true → P u → (is_member bytes_eq us k ≡ true → P k) → P k
among-step P u k us true e h p by = subst P (sym ((bytes_eq-Decides k u).0 e)) p
among-step P u k us false e h p by = by h

-- what holds of all is true of one among them
all-among : (P : List ℕ → Type 0) (us : List (List ℕ)) (k : List ℕ) → is_member bytes_eq us k ≡ true → AllByRecursion P us → P k
all-among P [] k h a = cc
all-among P (u ∷ us) k h a = among-step P u k us (bytes_eq k u) refl h a.0 (λ g. all-among P us k g a.1)

-- where addresses are distinct, one among some isn't among the others
pub not-beside : (xs ys zs : List (List ℕ)) (k : List ℕ) → AreDistinct (xs ++ (ys ++ zs)) → is_member bytes_eq ys k ≡ true → is_member bytes_eq (xs ++ zs) k ≡ false
not-beside xs ys zs k apart h =
    let P : List ℕ → Type 0 = λ y. AllByRecursion (λ o. y ≢ o) (xs ++ zs) in
    unlike-all k (xs ++ zs) (all-among P ys k h (apart-unmix xs ys zs apart))

or-middle : (a b c : Bool) → b ≡ true → (a || (b || c)) ≡ true
or-middle true b c h = refl
or-middle false true c h = refl
or-middle false false c h = cc

-- ---- which document has an address

module _ {D : Type 0} (own : D → List (List ℕ)) (number : D → ℕ) where
  abbrev Hold : List D → List ℕ → Option ℕ
  Hold ds k = first_holder own number ds k

  none-holds : (ds : List D) (k : List ℕ) → is_member bytes_eq (flat_map own ds) k ≡ false → Hold ds k ≡ None
  none-holds [] k h = refl
  none-holds (d ∷ ds) k h =
      let n = neither-of (is_member bytes_eq (own d) k) (is_member bytes_eq (flat_map own ds) k) (sym (list_any-append (bytes_eq k) (own d) (flat_map own ds)) ∙ h) in
      ap (λ b. cond b (Some (number d)) (Hold ds k)) n.0 ∙ none-holds ds k n.1

  append-step : (d : D) (xs ys : List D) (k : List ℕ) (b : Bool) → Hold (xs ++ ys) k ≡ or_else (Hold xs k) (Hold ys k)
      → cond b (Some (number d)) (Hold (xs ++ ys) k) ≡ or_else (cond b (Some (number d)) (Hold xs k)) (Hold ys k)
  append-step d xs ys k true by = refl
  append-step d xs ys k false by = by

  holds-append : (xs ys : List D) (k : List ℕ) → Hold (xs ++ ys) k ≡ or_else (Hold xs k) (Hold ys k)
  holds-append [] ys k = refl
  holds-append (x ∷ xs) ys k = append-step x xs ys k (is_member bytes_eq (own x) k) (holds-append xs ys k)

  -- one document more
  put-step : (before behind : List D) (n : ℕ) (k : List ℕ) (b : Bool) → (b ≡ true → Hold before k ≡ None) → Hold (before ++ behind) k ≡ or_else (Hold before k) (Hold behind k)
      → cond b (Some n) (Hold (before ++ behind) k) ≡ or_else (Hold before k) (cond b (Some n) (Hold behind k))
  put-step before behind n k true none e = sym (ap (λ o. or_else o (Some n)) (none refl))
  put-step before behind n k false none e = e

  held-more : (before behind : List D) (d : D) (k : List ℕ) → (is_member bytes_eq (own d) k ≡ true → is_member bytes_eq (flat_map own before) k ≡ false)
      → cond (is_member bytes_eq (own d) k) (Some (number d)) (Hold (before ++ behind) k) ≡ Hold (before ++ d ∷ behind) k
  held-more before behind d k apart =
      put-step before behind (number d) k (is_member bytes_eq (own d) k) (λ h. none-holds before k (apart h)) (holds-append before behind k)
      ∙ sym (holds-append before (d ∷ behind) k)

  -- the addresses of a document, distinct from all others
  own-beside : (before behind : List D) (d : D) → AreDistinct (flat_map own (before ++ d ∷ behind)) → AreDistinct (flat_map own before ++ (own d ++ flat_map own behind))
  own-beside before behind d apart = subst (λ (xs : List (List ℕ)). AreDistinct xs) (flat_map-append own before (d ∷ behind)) apart

  own-alone : (before behind : List D) (d : D) (k : List ℕ) → AreDistinct (flat_map own (before ++ d ∷ behind)) → is_member bytes_eq (own d) k ≡ true → is_member bytes_eq (flat_map own (before ++ behind)) k ≡ false
  own-alone before behind d k apart h =
      ap (λ (xs : List (List ℕ)). is_member bytes_eq xs k) (flat_map-append own before behind) ∙ not-beside (flat_map own before) (own d) (flat_map own behind) k (own-beside before behind d apart) h

  not-before : (before behind : List D) (k : List ℕ) → is_member bytes_eq (flat_map own (before ++ behind)) k ≡ false → is_member bytes_eq (flat_map own before) k ≡ false
  not-before before behind k h =
      (neither-of (is_member bytes_eq (flat_map own before) k) (is_member bytes_eq (flat_map own behind) k)
      (sym (list_any-append (bytes_eq k) (flat_map own before) (flat_map own behind)) ∙ sym (ap (λ (xs : List (List ℕ)). is_member bytes_eq xs k) (flat_map-append own before behind)) ∙ h)).0

  -- one more document, whose addresses are distinct from all others
  pub held-apart : (before behind : List D) (d : D) (k : List ℕ) → AreDistinct (flat_map own (before ++ d ∷ behind)) → cond (is_member bytes_eq (own d) k) (Some (number d)) (Hold (before ++ behind) k) ≡ Hold (before ++ d ∷ behind) k
  held-apart before behind d k apart = held-more before behind d k (λ h. not-before before behind k (own-alone before behind d k apart h))

  -- one document less
  less-step : (rest whole : Option ℕ) (n : ℕ) (b : Bool) → (b ≡ true → rest ≡ None) → cond b (Some n) rest ≡ whole → cond b None whole ≡ rest
  less-step rest whole n true none e = sym (none refl)
  less-step rest whole n false none e = sym e

  pub held-less : (before behind : List D) (d : D) (k : List ℕ) → AreDistinct (flat_map own (before ++ d ∷ behind)) → cond (is_member bytes_eq (own d) k) None (Hold (before ++ d ∷ behind) k) ≡ Hold (before ++ behind) k
  held-less before behind d k apart =
      less-step (Hold (before ++ behind) k) (Hold (before ++ d ∷ behind) k) (number d) (is_member bytes_eq (own d) k)
      (λ h. none-holds (before ++ behind) k (own-alone before behind d k apart h))
      (held-apart before behind d k apart)

  -- a document whose addresses were replaced
  exchange-step : (n : ℕ) (h : Option ℕ) (e l a b : Bool) → (l ≡ true → ((a || b) ≡ false) × (h ≡ None))
      → cond e (Some n) (cond l None (cond (a || (l || b)) (Some n) h)) ≡ cond (a || (e || b)) (Some n) h
  exchange-step n h true l true b none = refl
  exchange-step n h true l false b none = refl
  exchange-step n h false false a b none = refl
  exchange-step n h false true a b none =
      let free = none refl in
      sym (ap (λ (c : Bool). cond c (Some n) h) free.0 ∙ free.1)

  among : (xs ys zs : List (List ℕ)) (k : List ℕ) → is_member bytes_eq (xs ++ (ys ++ zs)) k ≡ (is_member bytes_eq xs k || (is_member bytes_eq ys k || is_member bytes_eq zs k))
  among xs ys zs k = list_any-append (bytes_eq k) xs (ys ++ zs) ∙ ap (λ (b : Bool). is_member bytes_eq xs k || b) (list_any-append (bytes_eq k) ys zs)

  among-two : (xs zs : List (List ℕ)) (k : List ℕ) (b : Bool) → is_member bytes_eq (xs ++ zs) k ≡ b → (is_member bytes_eq xs k || is_member bytes_eq zs k) ≡ b
  among-two xs zs k b h = sym (list_any-append (bytes_eq k) xs zs) ∙ h

  pub held-exchanged : (before behind : List D) (d e : D) (front rest leaves enters : List (List ℕ)) (k : List ℕ)
      → AreDistinct (flat_map own (before ++ d ∷ behind)) → AreDistinct (flat_map own (before ++ e ∷ behind)) → number d ≡ number e
      → own d ≡ front ++ (leaves ++ rest) → own e ≡ front ++ (enters ++ rest)
      → cond (is_member bytes_eq enters k) (Some (number e)) (cond (is_member bytes_eq leaves k) None (Hold (before ++ d ∷ behind) k)) ≡ Hold (before ++ e ∷ behind) k
  held-exchanged before behind d e front rest leaves enters k old new same was is =
      let n = number e in
      let other = Hold (before ++ behind) k in
      let en = is_member bytes_eq enters k in
      let le = is_member bytes_eq leaves k in
      let fr = is_member bytes_eq front k in
      let re = is_member bytes_eq rest k in
      let has-old : is_member bytes_eq (own d) k ≡ (fr || (le || re)) = ap (λ (us : List (List ℕ)). is_member bytes_eq us k) was ∙ among front leaves rest k in
      let has-new : is_member bytes_eq (own e) k ≡ (fr || (en || re)) = ap (λ (us : List (List ℕ)). is_member bytes_eq us k) is ∙ among front enters rest k in
      let held-old : Hold (before ++ d ∷ behind) k ≡ cond (fr || (le || re)) (Some n) other =
      sym (held-apart before behind d k old) ∙ ap (λ (b : Bool). cond b (Some (number d)) other) has-old ∙ ap (λ (m : ℕ). cond (fr || (le || re)) (Some m) other) same in
      let own-apart : AreDistinct (front ++ (leaves ++ rest)) =
      subst (λ (us : List (List ℕ)). AreDistinct us) was (apart-middle (flat_map own before) (own d) (flat_map own behind) (own-beside before behind d old)) in
      let left : le ≡ true → is_member bytes_eq (own d) k ≡ true = λ h. has-old ∙ or-middle fr le re h in
      ap (λ (o : Option ℕ). cond en (Some n) (cond le None o)) held-old
      ∙ exchange-step n other en le fr re
      (λ h. (among-two front rest k false (not-beside front leaves rest k own-apart h), none-holds (before ++ behind) k (own-alone before behind d k old (left h))))
      ∙ ap (λ (b : Bool). cond b (Some n) other) (sym has-new)
      ∙ held-apart before behind e k new

  -- ---- whether another document has an address

  others-step : (mine : Option ℕ) (n : ℕ) (ds : List D) (k : List ℕ) (b : Bool) → is_held_by_other mine (Some n) ≡ true → is_held_by_other mine (Hold ds k) ≡ is_member bytes_eq (flat_map own ds) k
      → is_held_by_other mine (cond b (Some n) (Hold ds k)) ≡ (b || is_member bytes_eq (flat_map own ds) k)
  others-step mine n ds k true e by = e
  others-step mine n ds k false e by = by

  -- among documents that all count as others
  pub others-hold : (mine : Option ℕ) (ds : List D) (k : List ℕ) → AllByRecursion (λ d. is_held_by_other mine (Some (number d)) ≡ true) ds → is_held_by_other mine (Hold ds k) ≡ is_member bytes_eq (flat_map own ds) k
  others-hold None [] k a = refl
  others-hold (Some m) [] k a = refl
  others-hold mine (d ∷ ds) k a =
      others-step mine (number d) ds k (is_member bytes_eq (own d) k) a.0 (others-hold mine ds k a.1) ∙ sym (list_any-append (bytes_eq k) (own d) (flat_map own ds))

  mine-step : (n : ℕ) (rest : Option ℕ) (b c : Bool) → (b ≡ true → c ≡ false) → is_held_by_other (Some n) rest ≡ c → is_held_by_other (Some n) (cond b (Some n) rest) ≡ c
  mine-step n rest true c alone e = let h = alone refl in grind (arith, nat_tests)
  mine-step n rest false c alone e = e

  -- besides one document
  pub others-hold-beside : (before behind : List D) (d : D) (k : List ℕ) → AreDistinct (flat_map own (before ++ d ∷ behind)) → AllByRecursion (λ e. is_held_by_other (Some (number d)) (Some (number e)) ≡ true) (before ++ behind)
      → is_held_by_other (Some (number d)) (Hold (before ++ d ∷ behind) k) ≡ is_member bytes_eq (flat_map own (before ++ behind)) k
  others-hold-beside before behind d k apart others =
      ap (λ o. is_held_by_other (Some (number d)) o) (sym (held-apart before behind d k apart))
      ∙ mine-step (number d) (Hold (before ++ behind) k) (is_member bytes_eq (own d) k) (is_member bytes_eq (flat_map own (before ++ behind)) k) (own-alone before behind d k apart) (others-hold (Some (number d)) (before ++ behind) k others)

  -- no other document has an address of a document whose addresses are distinct from all others
  pub own-free : (before behind : List D) (d : D) → AreDistinct (flat_map own (before ++ d ∷ behind)) → AllByRecursion (λ e. is_held_by_other (Some (number d)) (Some (number e)) ≡ true) (before ++ behind)
      → AllByRecursion (λ k. is_held_by_other (Some (number d)) (Hold (before ++ d ∷ behind) k) ≡ false) (own d)
  own-free before behind d apart others =
      let xs = flat_map own before in
      let zs = flat_map own behind in
      each-weaker (λ k. AllByRecursion (λ o. k ≢ o) (xs ++ zs)) (λ k. is_held_by_other (Some (number d)) (Hold (before ++ d ∷ behind) k) ≡ false)
      (λ k h.
      others-hold-beside before behind d k apart others
      ∙ ap (λ (us : List (List ℕ)). is_member bytes_eq us k) (flat_map-append own before behind)
      ∙ unlike-all k (xs ++ zs) h)
      (own d) (apart-unmix xs (own d) zs (own-beside before behind d apart))

-- numbers that differ
pub is-other : (m n : ℕ) → m ≢ n → is_held_by_other (Some m) (Some n) ≡ true
is-other m n h = grind (arith, nat_tests)
