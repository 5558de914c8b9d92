-- What the calls of a map of documents do, by the names of its entries.
use Rattle.std.proofs.Common.{◌≡◌, Bool, true, false, not, cond, List, [], ◌∷◌, map, filter, Some, refl, sym, ap, subst, ◌∙◌}
use Rattle.std.proofs.lemmas.Map.Keys.{IsDistinct-head, IsDistinct-tail}
use Rattle.std.proofs.lemmas.Option.{same_Some}
use Rattle.std.specs.List.{AllByRecursion, IsDistinct}
use Rattle.std.specs.Map.{keys_of, lookup, remove_entry, set_value}
use Rattle.doc_names.specs.NameEquality.{same_id}
use Rattle.doc_names.specs.contracts.doc_id.DocIdPartialEq.TheImpl.{eq-value}
use Rattle.doc_names.specs.declared.doc_id.DocId.{DocId}
use Rattle.doc_names.proofs.Keys.{derived_eq}
use Rattle.store_core.proofs.DistinctItems.{none-exchanged, none-filtered}
use Rattle.store_core.proofs.Entries.{each-unmapped}
use Rattle.doc_names.proofs.SameIds.{id_exact}

module _ {V : Type 0} where
  -- after an entry of this name there is none of it
  none-more : (doc : DocId) (e : DocId × V) (es : List (DocId × V)) → same_id doc e.0 ≡ true → IsDistinct same_id (keys_of (e ∷ es)) → AllByRecursion (λ x. same_id doc x.0 ≡ false) es
  none-more doc e es h d =
      let Q : DocId → Type 0 = λ y. same_id doc y ≡ false in
      let same : e.0 ≡ doc = sym (id_exact doc e.0 h) in
      let name : DocId × V → DocId = λ x. x.0 in
      each-unmapped Q name es (subst (λ (k : DocId). AllByRecursion (λ y. same_id k y ≡ false) (keys_of es)) same (IsDistinct-head same_id e.0 (keys_of es) d))

  removed-step : (doc : DocId) (e : DocId × V) (es : List (DocId × V)) (b : Bool) → same_id doc e.0 ≡ b → IsDistinct same_id (keys_of (e ∷ es)) → remove_entry (same_id doc) es ≡ filter (λ x. not (same_id doc x.0)) es
      → cond b es (e ∷ remove_entry (same_id doc) es) ≡ cond (not b) (e ∷ filter (λ x. not (same_id doc x.0)) es) (filter (λ x. not (same_id doc x.0)) es)
  removed-step doc e es true h d by = sym (none-filtered (λ (x : DocId × V). same_id doc x.0) es (none-more doc e es h d))
  removed-step doc e es false h d by = ap (λ (xs : List (DocId × V)). e ∷ xs) by

  removed-once : (doc : DocId) (es : List (DocId × V)) → IsDistinct same_id (keys_of es) → remove_entry (same_id doc) es ≡ filter (λ x. not (same_id doc x.0)) es
  removed-once doc [] d = refl
  removed-once doc (e ∷ es) d = removed-step doc e es (same_id doc e.0) refl d (removed-once doc es (IsDistinct-tail same_id e.0 (keys_of es) d))

  set-step : (doc : DocId) (e : DocId × V) (es : List (DocId × V)) (w : V) (b : Bool) → same_id doc e.0 ≡ b → IsDistinct same_id (keys_of (e ∷ es)) → set_value (same_id doc) es w ≡ map (λ x. cond (same_id doc x.0) (x.0, w) x) es
      → cond b ((e.0, w) ∷ es) (e ∷ set_value (same_id doc) es w) ≡ cond b (e.0, w) e ∷ map (λ x. cond (same_id doc x.0) (x.0, w) x) es
  set-step doc e es w true h d by =
      let f : DocId × V → DocId × V = λ x. (x.0, w) in
      ap (λ (xs : List (DocId × V)). (e.0, w) ∷ xs) (sym (none-exchanged (λ (x : DocId × V). same_id doc x.0) f es (none-more doc e es h d)))
  set-step doc e es w false h d by = ap (λ (xs : List (DocId × V)). e ∷ xs) by

  set-once : (doc : DocId) (es : List (DocId × V)) (w : V) → IsDistinct same_id (keys_of es) → set_value (same_id doc) es w ≡ map (λ x. cond (same_id doc x.0) (x.0, w) x) es
  set-once doc [] w d = refl
  set-once doc (e ∷ es) w d = set-step doc e es w (same_id doc e.0) refl d (set-once doc es w (IsDistinct-tail same_id e.0 (keys_of es) d))

  -- the calls, whose test is the derived `==`
  pub looked-up : (doc : DocId) (es : List (DocId × V)) → lookup (eq-value.it doc) es ≡ lookup (same_id doc) es
  looked-up doc es = ap (λ eq. lookup (eq doc) es) derived_eq

  -- what a look-up found is the stored entry
  pub one-value : (doc : DocId) (es : List (DocId × V)) (v w : V) → lookup (same_id doc) es ≡ Some v → Some w ≡ lookup (eq-value.it doc) es → v ≡ w
  one-value doc es v w there found = same_Some v w (sym there ∙ sym (looked-up doc es) ∙ sym found)

  pub taken-out : (doc : DocId) (es : List (DocId × V)) → IsDistinct eq-value.it (keys_of es) → remove_entry (eq-value.it doc) es ≡ filter (λ x. not (same_id doc x.0)) es
  taken-out doc es d =
      ap (λ eq. remove_entry (eq doc) es) derived_eq ∙ removed-once doc es (subst (λ (eq : DocId → DocId → Bool). IsDistinct eq (keys_of es)) derived_eq d)

  same-step : (q : DocId → Bool) (e : DocId × V) (es : List (DocId × V)) (v : V) (b : Bool) → cond b (Some e.1) (lookup q es) ≡ Some v → (lookup q es ≡ Some v → set_value q es v ≡ es)
      → cond b ((e.0, v) ∷ es) (e ∷ set_value q es v) ≡ e ∷ es
  same-step q e es v true h by = ap (λ (x : V). (e.0, x) ∷ es) (sym (same_Some e.1 v h))
  same-step q e es v false h by = ap (λ (xs : List (DocId × V)). e ∷ xs) (by h)

  -- the stored value, written back
  pub same-set : (q : DocId → Bool) (es : List (DocId × V)) (v : V) → lookup q es ≡ Some v → set_value q es v ≡ es
  same-set q [] v h = cc
  same-set q (e ∷ es) v h = same-step q e es v (q e.0) h (same-set q es v)

  pub exchanged-in : (doc : DocId) (es : List (DocId × V)) (w : V) → IsDistinct eq-value.it (keys_of es) → set_value (eq-value.it doc) es w ≡ map (λ x. cond (same_id doc x.0) (x.0, w) x) es
  exchanged-in doc es w d =
      ap (λ eq. set_value (eq doc) es w) derived_eq ∙ set-once doc es w (subst (λ (eq : DocId → DocId → Bool). IsDistinct eq (keys_of es)) derived_eq d)
