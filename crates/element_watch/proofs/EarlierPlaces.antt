-- Where an element was before a change is the only place that the change moves to its present one.
use Rattle.std.proofs.Common.{◌≡◌, ◌↔◌, ◌-◌, ◌==◌, ℕ, suc, Bool, true, false, cond, not, is_some, List, [], ◌∷◌, ◌++◌, Option, None, Some, IsSome, option_map, option_and_then, refl, sym, ap, ◌∙◌, inl, inr, ⊎_elim, arith, append-nil, append_assoc}
use Rattle.std.specs.Prelude.{◌&&◌, ◌||◌, nat_le}
use Rattle.std.specs.Str.{bytes_eq}
use Rattle.std.proofs.lemmas.Bool.{cases_lt, cases_order, le-leb, lt-leb, ne_eqb, eq-eqb}
use Rattle.std.proofs.lemmas.Option.{same_Some}
use Rattle.std.proofs.lemmas.Slice.Eq.{bytes_eq-Decides}
use Rattle.xml_tree.specs.Edits.{last_number, parent_path}
use Rattle.xml_names.specs.declared.names.Name.{Name}
use Rattle.edit_ops.specs.MovedPaths.{path_below, shift_after_remove, shift_after_insert, path_with_new_rest, change_path_below, if_none_then}
use Rattle.edit_ops.specs.declared.change.Change.{Change}
use Rattle.edit_ops.specs.declared.change.Change.TheVariants.{CreateDocument, Insert, Replace, Remove, SetAttr, DropAttr, RemoveDocument}
use Rattle.edit_ops.proofs.WayLemmas.{path_below-other, path_below-same, path_below-whole}
use Rattle.element_watch.proofs.Ways.{above-none, path_below-append, path_below-common, path_below-longer, parent-none}
use Rattle.edit_ops.specs.Notes.{Note}
use Rattle.element_watch.specs.inner.PathHistory.{path_before_notes, path_before_change, is_touched, map_path_below, undo_insertion}
use Rattle.element_watch.specs.TouchedElements.{MovesUntouchedThrough, MovesUntouched, TouchesByAttr}

-- ---- tests

if_none : {A : Type 0} (b : Bool) (x : Option A) (p : A) → cond b None x ≡ Some p → (b ≡ false) × (x ≡ Some p)
if_none true x p h = cc
if_none false x p h = (refl, h)

if_some : {A : Type 0} (b : Bool) (x : Option A) (p : A) → cond b x None ≡ Some p → (b ≡ true) × (x ≡ Some p)
if_some true x p h = (refl, h)
if_some false x p h = cc

when_false : {A : Type 0} (b : Bool) (x : Option A) (p : A) → b ≡ false → x ≡ Some p → cond b None x ≡ Some p
when_false true x p e h = cc
when_false false x p e h = h

when_true : {A : Type 0} (b : Bool) (x : Option A) (p : A) → b ≡ true → x ≡ Some p → cond b x None ≡ Some p
when_true true x p e h = h
when_true false x p e h = cc

neither : (a b : Bool) → (a || b) ≡ false → (a ≡ false) × (b ≡ false)
neither true b h = cc
neither false b h = (refl, h)

both_false : (a b : Bool) → a ≡ false → b ≡ false → (a || b) ≡ false
both_false true b h g = cc
both_false false b h g = g

not_there : {A : Type 0} (o : Option A) → o ≡ None → is_some o ≡ false
not_there None h = refl
not_there (Some x) h = cc

none_there : {A : Type 0} (o : Option A) → is_some o ≡ false → o ≡ None
none_there None h = refl
none_there (Some x) h = cc

none_if : {A : Type 0} (o : Option A) → (IsSome o → ⊥) → o ≡ None
none_if None h = refl
none_if (Some x) h = absurd (h refl)

no_some : {A : Type 0} (o : Option A) → o ≡ None → IsSome o → ⊥
no_some None h g = cc
no_some (Some x) h g = cc

is_there : {A : Type 0} (o : Option A) (x : A) → o ≡ Some x → IsSome o
is_there None x h = cc
is_there (Some y) x h = refl

unless_some : (o : Option (List ℕ)) {B : Type 0} (x y : B) → if_none_then o x ≡ Some y → (o ≡ None) × (x ≡ y)
unless_some None x y h = (refl, cc)
unless_some (Some r) x y h = absurd (cc)

some_unless : (o : Option (List ℕ)) {B : Type 0} (x y : B) → o ≡ None → x ≡ y → if_none_then o x ≡ Some y
some_unless None x y h e = ap Some e
some_unless (Some r) x y h e = cc

-- ---- the numbers after an insertion and after a removal

gap_filled : (j n : ℕ) (r : List ℕ) → undo_insertion j (shift_after_insert j (n ∷ r)) ≡ Some (n ∷ r)
gap_filled j n r =
    ⊎_elim
    (λ lt. ap (λ b. undo_insertion j (cond b (suc n) n ∷ r)) (lt-leb j n lt) ∙ ap (λ b. cond b None (Some (shift_after_remove j (n ∷ r)))) (ne_eqb n j (λ e. absurd (omega arith))) ∙ ap (λ b. Some (cond b (n - 1) n ∷ r)) (lt-leb (suc j) n (omega arith)))
    (λ le. ap (λ b. undo_insertion j (cond b (suc n) n ∷ r)) (le-leb j n le) ∙ ap (λ b. cond b None (Some (shift_after_remove j (suc n ∷ r)))) (ne_eqb (suc n) j (λ e. absurd (omega arith)))
    ∙ ap (λ b. Some (cond b (suc n - 1) (suc n) ∷ r)) (le-leb (suc j) (suc n) (omega arith)) ∙ ap (λ (k : ℕ). Some (k ∷ r)) (omega arith))
    (cases_lt n j)

filled_gap : (j n : ℕ) (r s : List ℕ) → undo_insertion j (n ∷ r) ≡ Some s → shift_after_insert j s ≡ n ∷ r
filled_gap j n r s h =
    let a = if_none (n == j) (Some (shift_after_remove j (n ∷ r))) s h in
    let e : shift_after_remove j (n ∷ r) ≡ s = same_Some (shift_after_remove j (n ∷ r)) s a.1 in
    ap (shift_after_insert j) (sym e)
    ∙ ⊎_elim
    (λ same. absurd (let z : true ≡ false = sym (eq-eqb n j same) ∙ a.0 in cc))
    (⊎_elim
    (λ lt. ap (λ b. shift_after_insert j (cond b (n - 1) n ∷ r)) (lt-leb (suc j) n (omega arith)) ∙ ap (λ b. cond b (suc n) n ∷ r) (lt-leb j n lt))
    (λ lt. ap (λ b. shift_after_insert j (cond b (n - 1) n ∷ r)) (le-leb (suc j) n (omega arith)) ∙ ap (λ b. cond b (suc (n - 1)) (n - 1) ∷ r) (le-leb j (n - 1) (omega arith)) ∙ ap (λ (k : ℕ). k ∷ r) (omega arith)))
    (cases_order n j)

hole_filled : (i n : ℕ) (r : List ℕ) → (i ≡ n → ⊥) → shift_after_insert i (shift_after_remove i (n ∷ r)) ≡ n ∷ r
hole_filled i n r ne =
    ⊎_elim
    (λ same. absurd (ne same))
    (⊎_elim
    (λ lt. ap (λ b. shift_after_insert i (cond b (n - 1) n ∷ r)) (le-leb (suc i) n (omega arith)) ∙ ap (λ b. cond b (suc (n - 1)) (n - 1) ∷ r) (le-leb i (n - 1) (omega arith)) ∙ ap (λ (k : ℕ). k ∷ r) (omega arith))
    (λ lt. ap (λ b. shift_after_insert i (cond b (n - 1) n ∷ r)) (lt-leb (suc i) n (omega arith)) ∙ ap (λ b. cond b (suc n) n ∷ r) (lt-leb i n lt)))
    (cases_order i n)

filled_hole : (i n : ℕ) (r : List ℕ) → shift_after_remove i (shift_after_insert i (n ∷ r)) ≡ n ∷ r
filled_hole i n r =
    ⊎_elim
    (λ lt. ap (λ b. shift_after_remove i (cond b (suc n) n ∷ r)) (lt-leb i n lt) ∙ ap (λ b. cond b (n - 1) n ∷ r) (lt-leb (suc i) n (omega arith)))
    (λ le. ap (λ b. shift_after_remove i (cond b (suc n) n ∷ r)) (le-leb i n le) ∙ ap (λ b. cond b (suc n - 1) (suc n) ∷ r) (le-leb (suc i) (suc n) (omega arith)) ∙ ap (λ (k : ℕ). k ∷ r) (omega arith))
    (cases_lt n i)

-- a number moved by an insertion isn't the insertion point's
room_number : (i n : ℕ) → cond (nat_le i n) (suc n) n ≡ i → ⊥
room_number i n e =
    ⊎_elim
    (λ lt. let f : cond (nat_le i n) (suc n) n ≡ n = ap (λ b. cond b (suc n) n) (lt-leb i n lt) in omega arith)
    (λ le. let f : cond (nat_le i n) (suc n) n ≡ suc n = ap (λ b. cond b (suc n) n) (le-leb i n le) in omega arith)
    (cases_lt n i)

-- ---- a path changed after a place

under_none : (f : List ℕ → List ℕ) (q p : List ℕ) → path_below q p ≡ None → change_path_below f q p ≡ p
under_none f q p h = ap (path_with_new_rest f q p) h

under_some : (f : List ℕ → List ℕ) (q r : List ℕ) → change_path_below f q (q ++ r) ≡ q ++ f r
under_some f q r = ap (path_with_new_rest f q (q ++ r)) (path_below-append q r)

-- ---- an insertion

-- by the part of the path after the parent
abbrev AtGap : List ℕ → ℕ → List ℕ → List ℕ → Type 0
AtGap w j p q = (change_path_below (shift_after_insert j) w p ≡ q) × (path_below p w ≡ None)

CameTo : List ℕ → ℕ → List ℕ → List ℕ → Type 0
CameTo w j p q = cond (is_some (path_below q w)) None (map_path_below (undo_insertion j) w q (path_below w q)) ≡ Some p

insert_to : (w : List ℕ) (j : ℕ) (p q : List ℕ) (o : Option (List ℕ)) → path_below w p ≡ o → AtGap w j p q → CameTo w j p q
unfolding CameTo
insert_to w j p q None is (goes, free) =
    let same : p ≡ q = sym (under_none (shift_after_insert j) w p is) ∙ goes in
    when_false (is_some (path_below q w)) (map_path_below (undo_insertion j) w q (path_below w q)) p (not_there (path_below q w) (ap (λ x. path_below x w) (sym same) ∙ free))
    (ap (map_path_below (undo_insertion j) w q) (ap (path_below w) (sym same) ∙ is) ∙ ap Some (sym same))
insert_to w j p q (Some []) is (goes, free) =
    let whole = path_below-whole w p [] is in
    absurd (let z : None ≡ Some [] = sym free ∙ ap (λ x. path_below x w) (whole ∙ append-nil w) ∙ ap (path_below w) (sym (append-nil w)) ∙ path_below-append w [] in cc)
insert_to w j p q (Some (n ∷ r)) is (goes, free) =
    let whole = path_below-whole w p (n ∷ r) is in
    let to : q ≡ w ++ shift_after_insert j (n ∷ r) = sym goes ∙ ap (change_path_below (shift_after_insert j) w) whole ∙ under_some (shift_after_insert j) w (n ∷ r) in
    when_false (is_some (path_below q w)) (map_path_below (undo_insertion j) w q (path_below w q)) p (not_there (path_below q w) (ap (λ x. path_below x w) to ∙ path_below-longer w (cond (nat_le j n) (suc n) n) r))
    (ap (map_path_below (undo_insertion j) w q) (ap (path_below w) to ∙ path_below-append w (shift_after_insert j (n ∷ r))) ∙ ap (option_map (λ s. w ++ s)) (gap_filled j n r) ∙ ap Some (sym whole))

gap_from : (w : List ℕ) (j n : ℕ) (r p : List ℕ) (x : Option (List ℕ)) → undo_insertion j (n ∷ r) ≡ x → option_map (λ s. w ++ s) x ≡ Some p → (s : List ℕ) × ((undo_insertion j (n ∷ r) ≡ Some s) × (w ++ s ≡ p))
gap_from w j n r p None is h = cc
gap_from w j n r p (Some s) is h = (s, (is, same_Some (w ++ s) p h))

not_empty : (j n : ℕ) (r s : List ℕ) → shift_after_insert j s ≡ n ∷ r → (m : ℕ) × ((t : List ℕ) × (s ≡ m ∷ t))
not_empty j n r [] h = cc
not_empty j n r (m ∷ t) h = (m, (t, refl))

insert_from : (w : List ℕ) (j : ℕ) (p q : List ℕ) (o : Option (List ℕ)) → path_below w q ≡ o → CameTo w j p q → AtGap w j p q
unfolding CameTo
insert_from w j p q None is h =
    let a = if_none (is_some (path_below q w)) (map_path_below (undo_insertion j) w q (path_below w q)) p h in
    let same : q ≡ p = same_Some q p (sym (ap (map_path_below (undo_insertion j) w q) is) ∙ a.1) in
    (under_none (shift_after_insert j) w p (ap (path_below w) (sym same) ∙ is) ∙ sym same, ap (λ x. path_below x w) (sym same) ∙ none_there (path_below q w) a.0)
insert_from w j p q (Some []) is h =
    let a = if_none (is_some (path_below q w)) (map_path_below (undo_insertion j) w q (path_below w q)) p h in
    let whole = path_below-whole w q [] is in
    absurd (let z : None ≡ Some [] = sym (none_there (path_below q w) a.0) ∙ ap (λ x. path_below x w) (whole ∙ append-nil w) ∙ ap (path_below w) (sym (append-nil w)) ∙ path_below-append w [] in cc)
insert_from w j p q (Some (n ∷ r)) is h =
    let a = if_none (is_some (path_below q w)) (map_path_below (undo_insertion j) w q (path_below w q)) p h in
    let g = gap_from w j n r p (undo_insertion j (n ∷ r)) refl (sym (ap (map_path_below (undo_insertion j) w q) is) ∙ a.1) in
    let whole = path_below-whole w q (n ∷ r) is in
    let back_to = filled_gap j n r g.0 g.1.0 in
    let some = not_empty j n r g.0 back_to in (
      ap (change_path_below (shift_after_insert j) w) (sym g.1.1) ∙ under_some (shift_after_insert j) w g.0 ∙ ap (λ s. w ++ s) back_to ∙ sym whole,
      ap (λ x. path_below x w) (sym g.1.1 ∙ ap (λ s. w ++ s) some.1.1) ∙ path_below-longer w some.0 some.1.0,
    )

-- ---- a removal

-- the element at w, which isn't the root, is the i-th child of the one at f
module _ (w f : List ℕ) (i : ℕ) (whole : w ≡ f ++ i ∷ []) where
  OutOf : List ℕ → List ℕ → Type 0
  OutOf p q = (path_below w p ≡ None) × (change_path_below (shift_after_remove i) f p ≡ q) × (path_below p w ≡ None)

  remove_to : (p q : List ℕ) (o : Option (List ℕ)) → path_below f p ≡ o → OutOf p q → (path_below q f ≡ None) × (change_path_below (shift_after_insert i) f q ≡ p)
  unfolding OutOf
  remove_to p q None is (gone, goes, free) =
      let same : p ≡ q = sym (under_none (shift_after_remove i) f p is) ∙ goes in (
        ap (λ x. path_below x f) (sym same) ∙ above f i p (sym (ap (path_below p) whole) ∙ free),
        ap (change_path_below (shift_after_insert i) f) (sym same) ∙ under_none (shift_after_insert i) f p is,
      )
    where
      above : (g : List ℕ) (k : ℕ) (x : List ℕ) → path_below x (g ++ k ∷ []) ≡ None → path_below x g ≡ None
      above g k x h = none_if (path_below x g) (λ s. longer_there g k x (path_below x g) refl s h)
        where
          longer_there : (g : List ℕ) (k : ℕ) (x : List ℕ) (o : Option (List ℕ)) → path_below x g ≡ o → IsSome o → path_below x (g ++ k ∷ []) ≡ None → ⊥
          longer_there g k x None e s h = cc
          longer_there g k x (Some r) e s h =
              let there : path_below x (g ++ k ∷ []) ≡ Some (r ++ k ∷ []) = ap (λ y. path_below x (y ++ k ∷ [])) (path_below-whole x g r e) ∙ ap (path_below x) (append_assoc x r (k ∷ [])) ∙ path_below-append x (r ++ k ∷ []) in
              let z : None ≡ Some (r ++ k ∷ []) = sym h ∙ there in cc
  remove_to p q (Some []) is (gone, goes, free) =
      let at_parent = path_below-whole f p [] is ∙ append-nil f in
      absurd (let z : None ≡ Some (i ∷ []) = sym free ∙ ap (λ x. path_below x w) at_parent ∙ ap (path_below f) whole ∙ path_below-append f (i ∷ []) in cc)
  remove_to p q (Some (n ∷ r)) is (gone, goes, free) =
      let at_child = path_below-whole f p (n ∷ r) is in
      let other : i ≡ n → ⊥ = λ e. no_some (path_below w p) gone (is_there (path_below w p) r (ap (λ x. path_below x p) whole ∙ ap (path_below (f ++ i ∷ [])) at_child ∙ path_below-common f (i ∷ []) (n ∷ r) ∙ ap (λ k. path_below (k ∷ []) (n ∷ r)) e ∙ path_below-same n [] r)) in
      let to : q ≡ f ++ shift_after_remove i (n ∷ r) = sym goes ∙ ap (change_path_below (shift_after_remove i) f) at_child ∙ under_some (shift_after_remove i) f (n ∷ r) in (
        ap (λ x. path_below x f) to ∙ path_below-longer f (cond (nat_le (suc i) n) (n - 1) n) r,
        ap (change_path_below (shift_after_insert i) f) to ∙ under_some (shift_after_insert i) f (shift_after_remove i (n ∷ r)) ∙ ap (λ s. f ++ s) (hole_filled i n r other) ∙ sym at_child,
      )

  remove_from : (p q : List ℕ) (o : Option (List ℕ)) → path_below f q ≡ o → path_below q f ≡ None → change_path_below (shift_after_insert i) f q ≡ p → OutOf p q
  unfolding OutOf
  remove_from p q None is free goes =
      let same : q ≡ p = sym (under_none (shift_after_insert i) f q is) ∙ goes in (
        ap (λ x. path_below x p) whole ∙ ap (path_below (f ++ i ∷ [])) (sym same) ∙ parent-none f i q is,
        ap (change_path_below (shift_after_remove i) f) (sym same) ∙ under_none (shift_after_remove i) f q is,
        ap (path_below p) whole ∙ ap (λ x. path_below x (f ++ i ∷ [])) (sym same) ∙ above-none f i q free is,
      )
  remove_from p q (Some []) is free goes =
      let at_parent = path_below-whole f q [] is ∙ append-nil f in
      absurd (let z : None ≡ Some [] = sym free ∙ ap (λ x. path_below x f) at_parent ∙ ap (path_below f) (sym (append-nil f)) ∙ path_below-append f [] in cc)
  remove_from p q (Some (n ∷ r)) is free goes =
      let at_child = path_below-whole f q (n ∷ r) is in
      let m = cond (nat_le i n) (suc n) n in
      let from : p ≡ f ++ shift_after_insert i (n ∷ r) = sym goes ∙ ap (change_path_below (shift_after_insert i) f) at_child ∙ under_some (shift_after_insert i) f (n ∷ r) in (
        ap (λ x. path_below x p) whole ∙ ap (path_below (f ++ i ∷ [])) from ∙ path_below-common f (i ∷ []) (m ∷ r) ∙ path_below-other i m [] r (λ e. room_number i n (sym e)),
        ap (change_path_below (shift_after_remove i) f) from ∙ under_some (shift_after_remove i) f (shift_after_insert i (n ∷ r)) ∙ ap (λ s. f ++ s) (filled_hole i n r) ∙ sym at_child,
        ap (path_below p) whole ∙ ap (λ x. path_below x (f ++ i ∷ [])) from ∙ path_below-common f (m ∷ r) (i ∷ []) ∙ path_below-other m i r [] (room_number i n),
      )

whole_path : (n : ℕ) (w : List ℕ) → n ∷ w ≡ parent_path (n ∷ w) ++ last_number (n ∷ w) ∷ []
whole_path n [] = refl
whole_path n (m ∷ w) = ap (λ l. n ∷ l) (whole_path m w)

true_not : (b : Bool) → b ≡ false → not b ≡ true
true_not true h = cc
true_not false h = refl

not_true : (b : Bool) → not b ≡ true → b ≡ false
not_true true h = cc
not_true false h = refl

-- ---- an attribute

and_false : (a b : Bool) → (a ≡ true → b ≡ true → ⊥) → (a && b) ≡ false
and_false true true h = absurd (h refl refl)
and_false true false h = refl
and_false false b h = refl

both : (a b : Bool) → a ≡ true → b ≡ true → (a && b) ≡ true
both true b h g = g
both false b h g = cc

untouched_to : (q w : List ℕ) (name : Name) → (TouchesByAttr q w name → ⊥) → is_touched q w name ≡ false
untouched_to q w name free =
    both_false (is_some (path_below q w)) (is_some (path_below w q) && bytes_eq name.prefix []) (not_there (path_below q w) (none_if (path_below q w) (λ h. free (inl h))))
    (and_false (is_some (path_below w q)) (bytes_eq name.prefix []) (λ h e. free (inr (h, (bytes_eq-Decides name.prefix []).0 e))))

untouched_from : (q w : List ℕ) (name : Name) → is_touched q w name ≡ false → TouchesByAttr q w name → ⊥
untouched_from q w name h touches =
    let n = neither (is_some (path_below q w)) (is_some (path_below w q) && bytes_eq name.prefix []) h in
    ⊎_elim
    (λ t. no_some (path_below q w) (none_there (path_below q w) n.0) t)
    (λ t. let z : true ≡ false = sym (both (is_some (path_below w q)) (bytes_eq name.prefix []) t.0 ((bytes_eq-Decides name.prefix []).1 t.1)) ∙ n.1 in cc)
    touches

-- ---- every change

passes_to : (change : Change) (p q : List ℕ) → MovesUntouched p change q → path_before_change q change ≡ Some p
unfolding CameTo OutOf
passes_to (CreateDocument root) p q h = let e = h.goes_on in cc
passes_to (Insert parent gap element) p q h =
    insert_to parent gap p q (path_below parent p) refl (same_Some (change_path_below (shift_after_insert gap) parent p) q h.goes_on, none_if (path_below p parent) h.untouched)
passes_to (Replace w element) p q h =
    let k = unless_some (path_below w p) p q h.goes_on in
    when_false (is_some (path_below q w) || is_some (path_below w q)) (Some q) p
    (both_false (is_some (path_below q w)) (is_some (path_below w q)) (not_there (path_below q w) (ap (λ x. path_below x w) (sym k.1) ∙ none_if (path_below p w) (λ s. h.untouched (inl s)))) (not_there (path_below w q) (ap (path_below w) (sym k.1) ∙ k.0)))
    (ap Some (sym k.1))
passes_to (Remove []) p q h = let e = h.goes_on in cc
passes_to (Remove (n ∷ w)) p q h =
    let k = unless_some (path_below (n ∷ w) p) (change_path_below (shift_after_remove (last_number (n ∷ w))) (parent_path (n ∷ w)) p) q h.goes_on in
    let r = remove_to (n ∷ w) (parent_path (n ∷ w)) (last_number (n ∷ w)) (whole_path n w) p q (path_below (parent_path (n ∷ w)) p) refl (k.0, k.1, none_if (path_below p (n ∷ w)) (λ s. h.untouched (inl s))) in
    when_true (not (is_some (path_below q (parent_path (n ∷ w))))) (Some (change_path_below (shift_after_insert (last_number (n ∷ w))) (parent_path (n ∷ w)) q)) p (true_not (is_some (path_below q (parent_path (n ∷ w)))) (not_there (path_below q (parent_path (n ∷ w))) r.0)) (ap Some r.1)
passes_to (SetAttr w name value) p q h =
    let same = same_Some p q h.goes_on in
    when_false (is_touched q w name) (Some q) p (ap (λ x. is_touched x w name) (sym same) ∙ untouched_to p w name h.untouched) (ap Some (sym same))
passes_to (DropAttr w name) p q h =
    let same = same_Some p q h.goes_on in
    when_false (is_touched q w name) (Some q) p (ap (λ x. is_touched x w name) (sym same) ∙ untouched_to p w name h.untouched) (ap Some (sym same))
passes_to RemoveDocument p q h = let e = h.goes_on in cc

passes_from : (change : Change) (p q : List ℕ) → path_before_change q change ≡ Some p → MovesUntouched p change q
unfolding CameTo OutOf
passes_from (CreateDocument root) p q h = cc
passes_from (Insert parent gap element) p q h =
    let r = insert_from parent gap p q (path_below parent q) refl h in record { goes_on = ap Some r.0; untouched = no_some (path_below p parent) r.1 }
passes_from (Replace w element) p q h =
    let a = if_none (is_some (path_below q w) || is_some (path_below w q)) (Some q) p h in
    let n = neither (is_some (path_below q w)) (is_some (path_below w q)) a.0 in
    let same = same_Some q p a.1 in
    let above = ap (path_below w) (sym same) ∙ none_there (path_below w q) n.1 in
    let below = ap (λ x. path_below x w) (sym same) ∙ none_there (path_below q w) n.0 in record {
      goes_on = some_unless (path_below w p) p q above (sym same);
      untouched = λ t. ⊎_elim (no_some (path_below p w) below) (no_some (path_below w p) above) t;
    }
passes_from (Remove []) p q h = cc
passes_from (Remove (n ∷ w)) p q h =
    let a = if_some (not (is_some (path_below q (parent_path (n ∷ w))))) (Some (change_path_below (shift_after_insert (last_number (n ∷ w))) (parent_path (n ∷ w)) q)) p h in
    let r = remove_from (n ∷ w) (parent_path (n ∷ w)) (last_number (n ∷ w)) (whole_path n w) p q (path_below (parent_path (n ∷ w)) q) refl (none_there (path_below q (parent_path (n ∷ w))) (not_true (is_some (path_below q (parent_path (n ∷ w)))) a.0)) (same_Some (change_path_below (shift_after_insert (last_number (n ∷ w))) (parent_path (n ∷ w)) q) p a.1) in
    record {
      goes_on = some_unless (path_below (n ∷ w) p) (change_path_below (shift_after_remove (last_number (n ∷ w))) (parent_path (n ∷ w)) p) q r.0 r.1;
      untouched = λ t. ⊎_elim (no_some (path_below p (n ∷ w)) r.2) (no_some (path_below (n ∷ w) p) r.0) t;
    }
passes_from (SetAttr w name value) p q h =
    let a = if_none (is_touched q w name) (Some q) p h in
    let same = same_Some q p a.1 in
    record { goes_on = ap Some (sym same); untouched = untouched_from p w name (ap (λ x. is_touched x w name) (sym same) ∙ a.0) }
passes_from (DropAttr w name) p q h =
    let a = if_none (is_touched q w name) (Some q) p h in
    let same = same_Some q p a.1 in
    record { goes_on = ap Some (sym same); untouched = untouched_from p w name (ap (λ x. is_touched x w name) (sym same) ∙ a.0) }
passes_from RemoveDocument p q h = cc

-- ---- through change records

later_some : (o : Option (List ℕ)) (f : List ℕ → Option (List ℕ)) (p : List ℕ) → option_and_then f o ≡ Some p → (m : List ℕ) × ((o ≡ Some m) × (f m ≡ Some p))
later_some None f p h = cc
later_some (Some m) f p h = (m, (refl, h))

leads_to : (ns : List Note) (p q : List ℕ) → MovesUntouchedThrough p ns q → path_before_notes q ns ≡ Some p
leads_to [] p q h = ap Some (sym h)
leads_to (n ∷ ns) p q h = ap (option_and_then (λ m. path_before_change m n.change)) (leads_to ns h.0 q h.1.1) ∙ passes_to n.change p h.0 h.1.0

leads_from : (ns : List Note) (p q : List ℕ) → path_before_notes q ns ≡ Some p → MovesUntouchedThrough p ns q
leads_from [] p q h = sym (same_Some q p h)
leads_from (n ∷ ns) p q h =
    let r = later_some (path_before_notes q ns) (λ m. path_before_change m n.change) p h in
    (r.0, (passes_from n.change p r.0 r.1.1, leads_from ns r.0 q r.1.0))

pub leads_is : (ns : List Note) (p q : List ℕ) → (path_before_notes q ns ≡ Some p) ↔ MovesUntouchedThrough p ns q
leads_is ns p q = (leads_from ns p q, leads_to ns p q)

-- at most one path is moved to a path
pub one_start : (ns : List Note) (p p' q : List ℕ) → MovesUntouchedThrough p ns q → MovesUntouchedThrough p' ns q → p ≡ p'
one_start ns p p' q h g = same_Some p p' (sym (leads_to ns p q h) ∙ leads_to ns p' q g)
