-- Former paths as the code computes them, and bounds of their numbers.
use Rattle.std.proofs.Common.{◌≡◌, ◌↔◌, ◌-◌, ◌≤◌, ◌+◌, ℕ, suc, Bool, true, false, cond, not, is_some, List, [], ◌∷◌, ◌++◌, length, length-append, All, Option, None, Some, option_map, option_and_then, refl, sym, ap, ◌∙◌, subst, arith}
use Rattle.std.specs.Prelude.{◌&&◌, ◌==◌, nat_le}
use Rattle.std.specs.List.{AllByRecursion}
use Rattle.std.proofs.lemmas.List.Elements.{All-from_recursion, recursion_from_All}
use Rattle.std.proofs.lemmas.Option.{same_Some}
use Rattle.xml_tree.specs.Edits.{last_number, parent_path}
use Rattle.xml_tree.proofs.PathLemmas.{final-snoc, front-snoc}
use Rattle.edit_ops.specs.MovedPaths.{path_below, shift_after_remove, shift_after_insert, path_with_new_rest, change_path_below}
use Rattle.edit_ops.specs.declared.change.Change.{Change}
use Rattle.edit_ops.specs.declared.change.Change.TheVariants.{CreateDocument, Insert, Replace, Remove, SetAttr, DropAttr, RemoveDocument}
use Rattle.edit_ops.proofs.WayLemmas.{path_below-whole}
use Rattle.edit_ops.specs.Notes.{Note}
use Rattle.element_watch.specs.TouchedElements.{MovesUntouchedThrough}
use Rattle.element_watch.proofs.EarlierPlaces.{leads_is}
use Rattle.element_watch.specs.inner.PathHistory.{path_before_notes, path_before_change, is_below_root, map_path_below, undo_insertion}

-- ---- a place by its parent and its number

below_root : (w : List ℕ) (i : ℕ) → is_below_root (w ++ i ∷ []) ≡ true
below_root [] i = refl
below_root (n ∷ w) i = refl

abbrev room_if : List ℕ → Bool → List ℕ → ℕ → Option (List ℕ)
room_if q b g k = cond (b && not (is_some (path_below q g))) (Some (change_path_below (shift_after_insert k) g q)) None

pub cut_parts : (q w f : List ℕ) (i : ℕ) → w ≡ f ++ i ∷ [] → path_before_change q (Remove w) ≡ cond (not (is_some (path_below q f))) (Some (change_path_below (shift_after_insert i) f q)) None
cut_parts q w f i is =
    ap (λ x. path_before_change q (Remove x)) is
    ∙ by (is_below_root (f ++ i ∷ [])) (parent_path (f ++ i ∷ [])) (last_number (f ++ i ∷ [])) (below_root f i) (front-snoc f i) (final-snoc f i)
  where
    by : (b : Bool) (g : List ℕ) (k : ℕ) → b ≡ true → g ≡ f → k ≡ i → room_if q b g k ≡ room_if q true f i
    by b g k e h j = ap (λ x. room_if q x g k) e ∙ ap (λ x. room_if q true x k) h ∙ ap (room_if q true f) j

-- ---- numbers

abbrev Within : ℕ → List ℕ → Type 0
Within b p = AllByRecursion (λ n. n ≤ b) p

split : (b : ℕ) (xs ys : List ℕ) → Within b (xs ++ ys) → Within b xs × Within b ys
split b [] ys h = (tt, h)
split b (x ∷ xs) ys h = let r = split b xs ys h.1 in ((h.0, r.0), r.1)

join : (b : ℕ) (xs ys : List ℕ) → Within b xs → Within b ys → Within b (xs ++ ys)
join b [] ys h g = g
join b (x ∷ xs) ys h g = (h.0, join b xs ys h.1 g)

-- a number on a path of small numbers is small
pub is_small : (b : ℕ) (p xs ys : List ℕ) (n : ℕ) → p ≡ xs ++ n ∷ ys → All (λ k. k ≤ b) p → n ≤ b
is_small b p xs ys n is h = (split b xs (n ∷ ys) (recursion_from_All (λ k. k ≤ b) (xs ++ n ∷ ys) (subst (λ l. All (λ k. k ≤ b) l) is h))).1.0

more : (b c : ℕ) (xs : List ℕ) → b ≤ c → Within b xs → Within c xs
more b c [] le h = tt
more b c (x ∷ xs) le h = ((let first = h.0 in omega arith), more b c xs le h.1)

one_more : (x : Bool) (n b : ℕ) → n ≤ b → cond x (suc n) n ≤ suc b
one_more true n b h = omega arith
one_more false n b h = omega arith

one_less : (x : Bool) (n b : ℕ) → n ≤ b → cond x (n - 1) n ≤ suc b
one_less true n b h = omega arith
one_less false n b h = omega arith

room_within : (j b : ℕ) (r : List ℕ) → Within b r → Within (suc b) (shift_after_insert j r)
room_within j b [] h = tt
room_within j b (n ∷ r) h = (one_more (nat_le j n) n b h.0, more b (suc b) r (omega arith) h.1)

closed_within : (j b : ℕ) (r : List ℕ) → Within b r → Within (suc b) (shift_after_remove j r)
closed_within j b [] h = tt
closed_within j b (n ∷ r) h = (one_less (nat_le (suc j) n) n b h.0, more b (suc b) r (omega arith) h.1)

routed_within : (f : List ℕ → List ℕ) (b : ℕ) (w q : List ℕ) (o : Option (List ℕ)) → path_below w q ≡ o → ((r : List ℕ) → Within b r → Within (suc b) (f r)) → Within b q → Within (suc b) (path_with_new_rest f w q o)
routed_within f b w q None is h g = more b (suc b) q (omega arith) g
routed_within f b w q (Some r) is h g =
    let parts = split b w r (subst (Within b) (path_below-whole w q r is) g) in join (suc b) w (f r) (more b (suc b) w (omega arith) parts.0) (h r parts.1)

gap_within : (j b : ℕ) (r s : List ℕ) → undo_insertion j r ≡ Some s → Within b r → Within (suc b) s
gap_within j b [] s h g = subst (Within (suc b)) (same_Some [] s h) tt
gap_within j b (n ∷ r) s h g = by (n == j) h
  where
    by : (x : Bool) → cond x None (Some (shift_after_remove j (n ∷ r))) ≡ Some s → Within (suc b) s
    by true e = cc
    by false e = subst (Within (suc b)) (same_Some (shift_after_remove j (n ∷ r)) s e) (closed_within j b (n ∷ r) g)

routed_if_within : (j b : ℕ) (w q p : List ℕ) (o : Option (List ℕ)) → path_below w q ≡ o → map_path_below (undo_insertion j) w q o ≡ Some p → Within b q → Within (suc b) p
routed_if_within j b w q p None is h g = subst (Within (suc b)) (same_Some q p h) (more b (suc b) q (omega arith) g)
routed_if_within j b w q p (Some r) is h g =
    let parts = split b w r (subst (Within b) (path_below-whole w q r is) g) in by (undo_insertion j r) refl h parts.0 parts.1
  where
    by : (x : Option (List ℕ)) → undo_insertion j r ≡ x → option_map (λ s. w ++ s) x ≡ Some p → Within b w → Within b r → Within (suc b) p
    by None e k front_in rest_in = cc
    by (Some s) e k front_in rest_in = subst (Within (suc b)) (same_Some (w ++ s) p k) (join (suc b) w s (more b (suc b) w (omega arith) front_in) (gap_within j b r s e rest_in))

if_none : (b : Bool) (x : Option (List ℕ)) (p : List ℕ) → cond b None x ≡ Some p → x ≡ Some p
if_none true x p h = cc
if_none false x p h = h

if_some : (b : Bool) (x : Option (List ℕ)) (p : List ℕ) → cond b x None ≡ Some p → x ≡ Some p
if_some true x p h = h
if_some false x p h = cc

same_within : (b : ℕ) (q p : List ℕ) → Some q ≡ Some p → Within b q → Within (suc b) p
same_within b q p h g = subst (Within (suc b)) (same_Some q p h) (more b (suc b) q (omega arith) g)

came_within : (change : Change) (b : ℕ) (q p : List ℕ) → path_before_change q change ≡ Some p → Within b q → Within (suc b) p
came_within (CreateDocument root) b q p h g = cc
came_within (Insert w j element) b q p h g = routed_if_within j b w q p (path_below w q) refl (if_none _ _ p h) g
came_within (Replace w element) b q p h g = same_within b q p (if_none _ _ p h) g
came_within (Remove w) b q p h g =
    subst (Within (suc b)) (same_Some (change_path_below (shift_after_insert (last_number w)) (parent_path w) q) p (if_some _ _ p h)) (routed_within (shift_after_insert (last_number w)) b (parent_path w) q (path_below (parent_path w) q) refl (room_within (last_number w) b) g)
came_within (SetAttr w name value) b q p h g = same_within b q p (if_none _ _ p h) g
came_within (DropAttr w name) b q p h g = same_within b q p (if_none _ _ p h) g
came_within RemoveDocument b q p h g = cc

back_within : (ns : List Note) (b : ℕ) (q p : List ℕ) → path_before_notes q ns ≡ Some p → Within b q → Within (b + length ns) p
back_within [] b q p h g = subst (Within (b + length {A = Note} [])) (same_Some q p h) (more b (b + length {A = Note} []) q (omega arith) g)
back_within (n ∷ ns) b q p h g = by (path_before_notes q ns) refl h (λ m e. back_within ns b q m e g)
  where
    by : (o : Option (List ℕ)) → path_before_notes q ns ≡ o → option_and_then (λ m. path_before_change m n.change) o ≡ Some p → ((m : List ℕ) → path_before_notes q ns ≡ Some m → Within (b + length ns) m) → Within (b + length (n ∷ ns)) p
    by None e k ih = cc
    by (Some m) e k ih = subst (λ (x : ℕ). Within x p) (omega arith) (came_within n.change (b + length ns) m p k (ih m e))

small_after : (ns : List Note) (q p : List ℕ) (k : ℕ) → path_before_notes q ns ≡ Some p → suc (length ns) ≤ k → k ≤ 64 → All (λ n. n ≤ 4294967359 - k) q → All (λ n. n ≤ 4294967359) p
small_after ns q p k h le within small =
    All-from_recursion (λ n. n ≤ 4294967359) p (more (4294967359 - k + length ns) 4294967359 p (omega arith) (back_within ns (4294967359 - k) q p h (recursion_from_All (λ n. n ≤ 4294967359 - k) q small)))

pub stays_small : (notes rest : List Note) (q p : List ℕ) (o : Option (List ℕ)) → o ≡ Some p → o ≡ path_before_notes q rest → suc (length rest) ≤ length notes → length notes ≤ 64 → All (λ n. n ≤ 4294967359 - length notes) q
    → All (λ n. n ≤ 4294967359) p
stays_small notes rest q p o was is le few small =
    small_after rest q p (length notes) (sym is ∙ was) le few small

pub middle_small : (older newer : List Note) (q p : List ℕ) (o : Option (List ℕ)) → o ≡ Some p → o ≡ path_before_notes q newer → length older + length newer ≤ 64 → All (λ n. n ≤ 4294967295) q
    → All (λ n. n ≤ 4294967359 - length older) p
middle_small older newer q p o was is few small =
    All-from_recursion (λ n. n ≤ 4294967359 - length older) p (more (4294967295 + length newer) (4294967359 - length older) p (omega arith) (back_within newer 4294967295 q p (sym is ∙ was) (recursion_from_All (λ n. n ≤ 4294967295) q small)))

-- ---- two pieces of a list of change records

one_more_note : (o : Option (List ℕ)) (f : List ℕ → Option (List ℕ)) (g : List ℕ → Option (List ℕ)) → option_and_then g (option_and_then f o) ≡ option_and_then (λ m. option_and_then g (f m)) o
one_more_note None f g = refl
one_more_note (Some m) f g = refl

back_append : (xs ys : List Note) (q : List ℕ) → path_before_notes q (xs ++ ys) ≡ option_and_then (λ m. path_before_notes m xs) (path_before_notes q ys)
back_append [] ys q = by (path_before_notes q ys)
  where
    by : (o : Option (List ℕ)) → o ≡ option_and_then (λ m. Some m) o
    by None = refl
    by (Some m) = refl
back_append (n ∷ xs) ys q = ap (option_and_then (λ m. path_before_change m n.change)) (back_append xs ys q) ∙ one_more_note (path_before_notes q ys) (λ m. path_before_notes m xs) (λ m. path_before_change m n.change)

pub few_of_all : (older newer : List Note) → length (older ++ newer) ≤ 64 → length older + length newer ≤ 64
few_of_all older newer few = omega (arith, length-append older newer)

pub trace_is : (older newer ns : List Note) (q p : List ℕ) (o : Option (List ℕ)) → older ++ newer ≡ ns → o ≡ option_and_then (λ m. path_before_notes m older) (path_before_notes q newer) → (o ≡ Some p) ↔ MovesUntouchedThrough p ns q
trace_is older newer ns q p o joins is =
    let whole : o ≡ path_before_notes q ns = is ∙ sym (back_append older newer q) ∙ ap (path_before_notes q) joins in
    let r = leads_is ns p q in
    (λ h. r.0 (sym whole ∙ h), λ h. whole ∙ r.1 h)
