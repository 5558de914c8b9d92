-- From the present version of a document back to an earlier one: what a key address finds in each.
use Rattle.std.proofs.Common.{◌≡◌, ℕ, zero, suc, ◌≤◌, List, [], ◌∷◌, ◌++◌, length, take, reverse, Option, None, Some, IsSome, slice_get, refl, sym, ap, ◌∙◌, subst, inl, inr, append_assoc, arith}
use Rattle.std.proofs.lemmas.List.{reverse-append, reverse-reverse}
use Rattle.std.proofs.lemmas.Option.{same_Some}
use Rattle.std.specs.List.{AllByRecursion}
use Rattle.std.specs.Option.{option_and_then}
use Rattle.xml_tree.specs.Tree.{Tree, at}
use Rattle.node_select.specs.Selection.{SelectsPath}
use Rattle.node_select.specs.declared.selector.Selector.{Selector}
use Rattle.doc_names.specs.declared.usages.Usage.{Usage}
use Rattle.edit_ops.specs.Changes.{FitsTree, edited, place}
use Rattle.edit_ops.specs.MovedPaths.{path_below}
use Rattle.edit_ops.specs.declared.change.Change.{Change}
use Rattle.edit_ops.specs.declared.change.Change.TheVariants.{CreateDocument, Insert, Replace, Remove, SetAttr, DropAttr, RemoveDocument}
use Rattle.edit_ops.proofs.MoveLaws.{others_stay}
use Rattle.edit_ops.specs.Notes.{Note}
use Rattle.edit_rules.specs.KeyAddresses.{IsKeyAddressOf, IsProperWithUniqueKeys}
use Rattle.edit_rules.specs.KeyWrites.{WritesKeyOnPath}
use Rattle.store_core.specs.ValidStates.{AreSuccessiveVersions, IsSoundDocument}
use Rattle.store_core.specs.State.{Version}
use Rattle.store_core.proofs.Chains.{notes_of}
use Rattle.element_watch.specs.SelectionHistory.{SelectsElement}
use Rattle.element_watch.specs.TouchedElements.{MovesUntouched, MovesUntouchedThrough, TouchesElement, moved_through}
use Rattle.edit_rules.proofs.Stable.{before_change}

-- ---- a change that doesn't touch an element

none_if : {A : Type 0} (o : Option A) → (IsSome o → ⊥) → o ≡ None
none_if None h = refl
none_if (Some x) h = absurd (h refl)

-- isn't made in it
outside : (t : Tree) (p : List ℕ) (change : Change) → FitsTree t change → (TouchesElement p change → ⊥) → path_below p (place change) ≡ None
outside t p (CreateDocument root) fits free = absurd fits
outside t p (Insert parent gap element) fits free = none_if (path_below p parent) free
outside t p (Replace w element) fits free = none_if (path_below p w) (λ h. free (inl h))
outside t p (Remove w) fits free = none_if (path_below p w) (λ h. free (inl h))
outside t p (SetAttr w name value) fits free = none_if (path_below p w) (λ h. free (inl h))
outside t p (DropAttr w name) fits free = none_if (path_below p w) (λ h. free (inl h))
outside t p RemoveDocument fits free = absurd fits

-- and writes no key on its path
no_key : (u : Usage) (t : Tree) (p : List ℕ) (change : Change) → (TouchesElement p change → ⊥) → WritesKeyOnPath u t p change → ⊥
no_key u t p (CreateDocument root) free h = h
no_key u t p (Insert parent gap element) free h = h
no_key u t p (Replace w element) free h = h
no_key u t p (Remove w) free h = h
no_key u t p (SetAttr w name value) free h = free (inr (h.on_path, h.unprefixed))
no_key u t p (DropAttr w name) free h = free (inr (h.on_path, h.unprefixed))
no_key u t p RemoveDocument free h = h

-- ---- change records of versions, newest first

none_noted : (v : Version) (vs : List Version) → v.note ≡ None → notes_of (v ∷ vs) ≡ notes_of vs
none_noted v vs is = rw is refl

some_noted : (v : Version) (vs : List Version) (n : Note) → v.note ≡ Some n → notes_of (v ∷ vs) ≡ n ∷ notes_of vs
some_noted v vs n is = rw is refl

same_first : {A : Type 0} (x y : A) (xs ys : List A) → x ∷ xs ≡ y ∷ ys → x ≡ y
same_first x y xs ys h = cc

same_rest : {A : Type 0} (x y : A) (xs ys : List A) → x ∷ xs ≡ y ∷ ys → xs ≡ ys
same_rest x y xs ys h = cc

turned : (n : Note) (ns : List Note) → reverse (n ∷ ns) ≡ reverse ns ++ n ∷ []
turned n ns = reverse-append (n ∷ []) ns

-- the last of the records moves a place to the present one
last_passes : (ns : List Note) (n : Note) (p q : List ℕ) → MovesUntouchedThrough p (ns ++ n ∷ []) q → (middle : List ℕ) × (MovesUntouchedThrough p ns middle × MovesUntouched middle n.change q)
last_passes [] n p q h = (p, (refl, subst (MovesUntouched p n.change) h.1.1 h.1.0))
last_passes (m ∷ ns) n p q h = let r = last_passes ns n h.0 q h.1.1 in (r.0, ((h.0, (h.1.0, r.1.0)), r.1.1))

-- one more record after those of the later versions
one_more : (v : Version) (vs : List Version) (n : Note) (k : ℕ) (path_below : List Note) → v.note ≡ Some n → reverse (notes_of (take k vs)) ++ n ∷ path_below ≡ reverse (notes_of (take (suc k) (v ∷ vs))) ++ path_below
one_more v vs n k path_below is =
    let xs = notes_of (take k vs) in
    sym (append_assoc (reverse xs) (n ∷ []) path_below) ∙ ap (λ (l : List Note). l ++ path_below) (sym (turned n xs)) ∙ ap (λ (l : List Note). reverse l ++ path_below) (sym (some_noted v (take k vs) n is))

-- ---- from version to version

-- a document without a fault has distinct keys
keyed : (u : Usage) (t : Tree) → IsSoundDocument u t → IsProperWithUniqueKeys u t
keyed u t sound = record { unique = sound.faultless.2; proper = sound.proper }

module _ (u : Usage) (selector : Selector) (e : Tree) (p : List ℕ) where
  -- what the address selects in a version, it selects in the earlier ones as far as records move
  -- the place
  pub found_in_each : (v : Version) (ws : List Version) (front rest path_below : List Note) (q former : List ℕ) → AllByRecursion (λ x. IsSoundDocument u x.tree) (v ∷ ws) → AreSuccessiveVersions v ws → notes_of (v ∷ ws) ≡ front ++ rest
      → SelectsPath selector.steps v.tree q → IsKeyAddressOf u v.tree selector q → at q v.tree ≡ Some e → moved_through q path_below ≡ Some p → MovesUntouchedThrough former (reverse front) q
      → (k : ℕ) (x : Version) → k ≤ length front → slice_get (v ∷ ws) k ≡ Some x → SelectsElement selector.steps e x.tree (reverse (notes_of (take k (v ∷ ws))) ++ path_below) p
  found_in_each v ws front rest path_below q former sound follows is selects address there moves passes zero x le found =
      subst (λ (w : Version). SelectsElement selector.steps e w.tree path_below p) (same_Some v x found) (record { path = q; selects = selects; there = there; moves = moves })
  found_in_each v ws [] rest path_below q former sound follows is selects address there moves passes (suc k) x le found = absurd (omega arith)
  found_in_each v [] (n ∷ front) rest path_below q former sound follows is selects address there moves passes (suc k) x le found = cc
  found_in_each v (w ∷ ws) (n ∷ front) rest path_below q former sound follows is selects address there moves passes (suc k) x le found =
      let m = follows.0.0 in
      let noted = follows.0.1 in
      let fits = follows.0.2 in
      let made : v.tree ≡ edited w.tree m.change = follows.0.3 in
      let listed : m ∷ notes_of (w ∷ ws) ≡ n ∷ (front ++ rest) = sym (some_noted v (w ∷ ws) m noted) ∙ is in
      let one : m ≡ n = same_first m n (notes_of (w ∷ ws)) (front ++ rest) listed in
      let others : notes_of (w ∷ ws) ≡ front ++ rest = same_rest m n (notes_of (w ∷ ws)) (front ++ rest) listed in
      let split = last_passes (reverse front) n former q (subst (λ (l : List Note). MovesUntouchedThrough former l q) (turned n front) passes) in
      let middle = split.0 in
      let passed : MovesUntouched middle m.change q = subst (λ (y : Note). MovesUntouched middle y.change q) (sym one) split.1.1 in
      let now : IsProperWithUniqueKeys u (edited w.tree m.change) = subst (IsProperWithUniqueKeys u) made (keyed u v.tree sound.0) in
      let before = before_change u w.tree m.change selector middle q (keyed u w.tree sound.1.0) fits now (subst (λ (t : Tree). IsKeyAddressOf u t selector q) made address)
      (subst (λ (t : Tree). SelectsPath selector.steps t q) made selects) passed.goes_on (no_key u w.tree middle m.change passed.untouched) in
      let same : at middle w.tree ≡ Some e = sym (others_stay w.tree m.change fits middle q (outside w.tree middle m.change fits passed.untouched) passed.goes_on) ∙ ap (at q) (sym made) ∙ there in
      let goes : moved_through middle (m ∷ path_below) ≡ Some p = ap (option_and_then (λ r. moved_through r path_below)) passed.goes_on ∙ moves in
      subst (λ (l : List Note). SelectsElement selector.steps e x.tree l p) (one_more v (w ∷ ws) m k path_below noted)
      (found_in_each w ws front rest (m ∷ path_below) middle former sound.1 follows.2 others before.0 before.1 same goes split.1.0 k x (omega arith) found)

-- ---- the version that the records begin with

pub begins_with : (v : Version) (ws : List Version) (front rest : List Note) → AreSuccessiveVersions v ws → notes_of (v ∷ ws) ≡ front ++ rest
    → (x : Version) × ((slice_get (v ∷ ws) (length front) ≡ Some x) × ((front ≡ [] → x ≡ v) × ((n : Note) (ns : List Note) → reverse front ≡ n ∷ ns → n.previous ≡ x.tag)))
begins_with v ws [] rest follows is = (v, (refl, ((λ _. refl), λ n ns none. cc)))
begins_with v [] (n ∷ front) rest follows is = let z : [] ≡ n ∷ (front ++ rest) = sym (none_noted v [] follows) ∙ is in cc
begins_with v (w ∷ ws) (n ∷ front) rest follows is =
    let m = follows.0.0 in
    let listed : m ∷ notes_of (w ∷ ws) ≡ n ∷ (front ++ rest) = sym (some_noted v (w ∷ ws) m follows.0.1) ∙ is in
    let one : m ≡ n = same_first m n (notes_of (w ∷ ws)) (front ++ rest) listed in
    let r = begins_with w ws front rest follows.2 (same_rest m n (notes_of (w ∷ ws)) (front ++ rest) listed) in
    let tagged : n.previous ≡ w.tag = ap (λ (y : Note). y.previous) (sym one ∙ follows.0.4) in
    (r.0, (r.1.0, ((λ none. cc), λ a ns first. by (reverse front) refl r.0 r.1.1.0 r.1.1.1 tagged a ns (sym (turned n front) ∙ first))))
  where
    empty : (xs : List Note) → reverse xs ≡ [] → xs ≡ []
    empty xs h = sym (reverse-reverse xs) ∙ ap reverse h

    by : (ys : List Note) → reverse front ≡ ys → (x : Version) → (front ≡ [] → x ≡ w) → ((b : Note) (bs : List Note) → reverse front ≡ b ∷ bs → b.previous ≡ x.tag) → n.previous ≡ w.tag
        → (a : Note) (ns : List Note) → reverse front ++ n ∷ [] ≡ a ∷ ns → a.previous ≡ x.tag
    by [] none x first later tagged a ns h =
        let only : n ∷ [] ≡ a ∷ ns = sym (ap (λ (l : List Note). l ++ n ∷ []) none) ∙ h in
        ap (λ (y : Note). y.previous) (sym (same_first n a [] ns only)) ∙ tagged ∙ ap (λ (y : Version). y.tag) (sym (first (empty front none)))
    by (b ∷ bs) some x first later tagged a ns h =
        let both : b ∷ (bs ++ n ∷ []) ≡ a ∷ ns = sym (ap (λ (l : List Note). l ++ n ∷ []) some) ∙ h in
        ap (λ (y : Note). y.previous) (sym (same_first b a (bs ++ n ∷ []) ns both)) ∙ later b bs some
