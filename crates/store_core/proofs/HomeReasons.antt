-- What the entries of a store say of the other documents of a home is what its contents say.
use Rattle.std.proofs.Common.{◌≡◌, ℕ, ◌+◌, ◌≤◌, nat_lt, min, Bool, true, false, not, ◌&&◌, ◌||◌, is_some, cond, List, [], ◌∷◌, length, map, filter, sum_by, Option, None, Some, option_map, refl, sym, ap, ◌∙◌, arith}
use Rattle.std.proofs.lemmas.Bool.Decides.{nat_tests}
use Rattle.std.proofs.lemmas.List.{length-map}
use Rattle.std.specs.List.{AllByRecursion}
use Rattle.std.specs.Option.{option_or as or_else}
use Rattle.xml_tree.specs.Tree.{Tree}
use Rattle.usage_docs.specs.Services.{document_len}
use Rattle.usage_docs.specs.declared.key_repeats.Clash.{Clash}
use Rattle.usage_docs.specs.declared.schema_table.Key.TheVariants.{Uri}
use Rattle.doc_names.specs.NameEquality.{same_home, same_id}
use Rattle.doc_names.specs.declared.doc_id.DocId.{DocId}
use Rattle.store_core.specs.HomeLimits.{is_above}
use Rattle.store_core.specs.declared.entry.Entry.{Entry}
use Rattle.store_core.specs.declared.limits.Limits.{Limits}
use Rattle.store_core.specs.declared.refusal.StoreRefusal.{StoreRefusal}
use Rattle.store_core.specs.declared.refusal.StoreRefusal.TheVariants.{ServiceTaken, TooLarge, TooMany, StoreFull, HomeTooMany, HomeFull}
use Rattle.store_core.specs.Contents.{StoredDocument, StoreContents as Content}
use Rattle.store_core.specs.DocumentChanges.{home_len_of_others, others_of_home, refusal_if, refusal_in_store, refusal_of_home, refusal_of_tree}
use Rattle.store_core.specs.StoreViews.{SpareCapacity, StoreView}
use Rattle.store_core.specs.inner.ChangePlans.{refusal_from_checks}
use Rattle.store_core.specs.inner.HomeSums.{is_other_at_home, limits_homes, others_at_home, refusal_from_sums, stored_len}
use Rattle.store_core.specs.inner.StoreMemory.{IsConsistentStore, contents_view, entry_len, stored_view}
use Rattle.store_core.proofs.AcceptedChanges.{sum-mapped}
use Rattle.store_core.proofs.ChangeReasons.{others-held, others-of, total-small}
use Rattle.store_core.proofs.HomeLemmas.{sum-cons}
use Rattle.store_core.proofs.HomeLists.{less-among}
use Rattle.store_core.proofs.StateContents.{map-filtered}

abbrev Row : Type 0
Row = DocId × Entry

-- ---- lists

-- those of the items that pass a second test that pass a first one pass both
module _ {X : Type 0} (p q : X → Bool) where
  both-true : (x : X) (xs : List X) (b : Bool) → cond b (x ∷ xs) xs ≡ cond (b && true) (x ∷ xs) xs
  both-true x xs true = refl
  both-true x xs false = refl

  both-false : (x : X) (xs : List X) (b : Bool) → xs ≡ cond (b && false) (x ∷ xs) xs
  both-false x xs true = refl
  both-false x xs false = refl

  both-step : (x : X) (xs : List X) (b : Bool) → filter p (cond b (x ∷ xs) xs) ≡ cond (p x && b) (x ∷ filter p xs) (filter p xs)
  both-step x xs true = both-true x (filter p xs) (p x)
  both-step x xs false = both-false x (filter p xs) (p x)

  filter-both : (xs : List X) → filter p (filter q xs) ≡ filter (λ x. p x && q x) xs
  filter-both [] = refl
  filter-both (x ∷ xs) = both-step x (filter q xs) (q x) ∙ ap (λ (ys : List X). cond (p x && q x) (x ∷ ys) ys) (filter-both xs)

-- sums over those that pass are alike where each item adds the same
module _ {X : Type 0} (f g : X → ℕ) where
  alike-step : (x : X) (xs : List X) (b : Bool) → f x ≡ g x → sum_by f xs ≡ sum_by g xs → sum_by f (cond b (x ∷ xs) xs) ≡ sum_by g (cond b (x ∷ xs) xs)
  alike-step x xs true same by = omega (arith, sum-cons f x xs, sum-cons g x xs, same, by)
  alike-step x xs false same by = by

  sum-alike : (p : X → Bool) (xs : List X) → AllByRecursion (λ x. f x ≡ g x) xs → sum_by f (filter p xs) ≡ sum_by g (filter p xs)
  sum-alike p [] h = refl
  sum-alike p (x ∷ xs) h = alike-step x (filter p xs) (p x) h.0 (sum-alike p xs h.1)

  sum-all : (xs : List X) → AllByRecursion (λ x. f x ≡ g x) xs → sum_by f xs ≡ sum_by g xs
  sum-all [] h = refl
  sum-all (x ∷ xs) h = omega (arith, sum-cons f x xs, sum-cons g x xs, h.0, sum-all xs h.1)

-- ---- the entries of a store

others-there : (es : List Row) (limits : Limits) (last : ℕ) (id : DocId) → others_of_home (contents_view es limits last) id ≡ map stored_view (others_at_home es id)
others-there es limits last id =
    let here : Row → Bool = λ e. same_home id.home e.0.home in
    let other : Row → Bool = λ e. not (same_id id e.0) in
    let held : StoredDocument → Bool = λ h. same_home id.home h.id.home in
    ap (filter held) (others-held es limits last id) ∙ sym (map-filtered stored_view here held (λ e. refl) (others-of es id)) ∙ ap (map stored_view) (filter-both here other es)

pub lens-small : (es : List Row) (rs : List (List ℕ × ℕ)) (limits : Limits) (last total : ℕ) → IsConsistentStore es rs limits last total → sum_by stored_len es ≤ 1152921504606846976
lens-small es rs limits last total s = omega (arith, sum-all stored_len entry_len es s.lens, s.sum, total-small es rs limits last total s)

pub others-small : (es : List Row) (rs : List (List ℕ × ℕ)) (limits : Limits) (last total : ℕ) (id : DocId) → IsConsistentStore es rs limits last total → sum_by stored_len (others_at_home es id) ≤ 1152921504606846976
others-small es rs limits last total id s = omega (arith, less-among id es, lens-small es rs limits last total s)

-- the reason that the sums give is the one of the definition
pub home-answer : (es : List Row) (rs : List (List ℕ × ℕ)) (limits : Limits) (last total : ℕ) (room : SpareCapacity) (s : StoreView) (doc : DocId) → (let x : StoreView = record { content = contents_view es limits last; room = room } in x) ≡ s → IsConsistentStore es rs limits last total
    → (t : Tree) (count bytes len : ℕ) → count ≡ length (others_at_home es doc) → bytes ≡ sum_by stored_len (others_at_home es doc) → len ≡ document_len t → refusal_from_sums limits count bytes len ≡ refusal_of_home s.content doc t
home-answer es rs limits last total room s doc seen storing t count bytes len counted added long =
    let c = contents_view es limits last in
    let of_held : StoredDocument → ℕ = λ h. document_len h.tree in
    let there = others-there es limits last doc in
    let number : count ≡ length (others_of_home c doc) = counted ∙ sym (length-map (others_at_home es doc) stored_view) ∙ sym (ap (λ (hs : List StoredDocument). length hs) there) in
    let sum : bytes ≡ home_len_of_others c doc =
    added ∙ sum-alike stored_len entry_len (is_other_at_home doc) es storing.lens ∙ sym (sum-mapped of_held stored_view (others_at_home es doc)) ∙ sym (ap (sum_by of_held) there) in
    ap (λ (n : ℕ). refusal_from_sums limits n bytes len) number
    ∙ ap (λ (n : ℕ). refusal_from_sums limits (length (others_of_home c doc)) n len) sum
    ∙ ap (λ (n : ℕ). refusal_from_sums limits (length (others_of_home c doc)) (home_len_of_others c doc) n) long
    ∙ ap (λ (x : StoreView). refusal_of_home x.content doc t) seen

-- there is none where the documents of a home aren't limited
no-option : (o : Option ℕ) → is_some o ≡ false → (n : ℕ) → is_above o n ≡ false
no-option None h n = refl
no-option (Some most) h n = cc

neither-some : (a b : Bool) → (a || b) ≡ false → (a ≡ false) × (b ≡ false)
neither-some true b h = cc
neither-some false b h = (refl, h)

not-above-any : (a b : Bool) (first second : StoreRefusal) → a ≡ false → b ≡ false → or_else (refusal_if a first) (refusal_if b second) ≡ None
not-above-any a b first second h g = rw (h, g) refl

pub unlimited : (c : Content) (doc : DocId) (t : Tree) → limits_homes c.limits ≡ false → refusal_of_home c doc t ≡ None
unlimited c doc t h =
    let none = neither-some (is_some c.limits.home_documents) (is_some c.limits.home_bytes) h in
    let count = length (others_of_home c doc) + 1 in
    let bytes = home_len_of_others c doc + document_len t in
    not-above-any (is_above c.limits.home_documents count) (is_above c.limits.home_bytes bytes) HomeTooMany (HomeFull bytes) (no-option c.limits.home_documents none.0 count) (no-option c.limits.home_bytes none.1 bytes)

-- ---- both reasons

none-first : {A : Type 0} (a b : Option A) → or_else a b ≡ None → a ≡ None
none-first None b h = refl
none-first (Some x) b h = h

none-second : {A : Type 0} (a b : Option A) → or_else a b ≡ None → b ≡ None
none-second None b h = h
none-second (Some x) b h = cc

not-so : (b : Bool) (r : StoreRefusal) → refusal_if b r ≡ None → b ≡ false
not-so true r h = cc
not-so false r h = refl

at-most : (n : ℕ) → nat_lt 262144 n ≡ false → n ≤ 262144
at-most n h = grind (arith, nat_tests)

-- a length against which the checks find nothing is small
pub checked-short : (place : Option ℕ) (len : ℕ) (full : Bool) (others most : ℕ) → refusal_from_checks place len full others most ≡ None → len ≤ 262144
checked-short place len full others most h =
    let clash : ℕ → Clash = λ i. record { path = i ∷ []; key = Uri } in
    let first : Option StoreRefusal = option_map (λ (x : Clash). ServiceTaken x) (option_map clash place) in
    let second : Option StoreRefusal = refusal_if (nat_lt 262144 len) (TooLarge len) in
    let rest : Option StoreRefusal = or_else (refusal_if full TooMany) (refusal_if (nat_lt most (others + len)) (StoreFull (others + len))) in
    at-most len (not-so (nat_lt 262144 len) (TooLarge len) (none-first second rest (none-second first (or_else second rest) h)))

pub uncut : (len n : ℕ) → len ≡ min n 18446744073709551615 → len ≤ 262144 → len ≡ n
uncut len n e h = omega (arith, e, h)

-- the first reason against a tree
pub first-reason : (c : Content) (id : DocId) (is_new : Bool) (t : Tree) (r : StoreRefusal) → Some r ≡ refusal_in_store c id is_new t → Some r ≡ refusal_of_tree c id is_new t
first-reason c id is_new t r same = ap (λ (o : Option StoreRefusal). or_else o (refusal_of_home c id t)) same

pub second-reason : (c : Content) (id : DocId) (is_new : Bool) (t : Tree) (own : Option StoreRefusal) → None ≡ refusal_in_store c id is_new t → own ≡ refusal_of_home c id t → own ≡ refusal_of_tree c id is_new t
second-reason c id is_new t own none by = by ∙ ap (λ (o : Option StoreRefusal). or_else o (refusal_of_home c id t)) none
