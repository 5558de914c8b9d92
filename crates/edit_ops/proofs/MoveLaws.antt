-- What is found beside a change, by induction on paths.
use Rattle.std.proofs.Common.{◌≡◌, inl, ℕ, zero, suc, ◌-◌, ◌<◌, ◌≤◌, cond, List, [], ◌∷◌, ◌++◌, length, insert, remove, Option, Some, None, refl, sym, ap, subst, ◌∙◌, ⊎_elim, arith}
use Rattle.std.proofs.lemmas.Bool.{cases_eq, cases_lt, cases_order, le-leb, lt-leb}
use Rattle.std.specs.List.{slice_get}
use Rattle.std.specs.Option.{option_map, option_and_then, IsSomeAnd}
use Rattle.xml_tree.specs.Tree.{Tree, at, child_elements, child_elements_of}
use Rattle.xml_tree.specs.Edits.{change_at, cut_child, cut_out, drop_attr_at, drop_attr, last_number, parent_path, put_in, put_kid, put_over, set_attr_at, set_attr_value}
use Rattle.xml_tree.proofs.PathLemmas.{from_there}
use Rattle.xml_tree.proofs.PlaceLaws.{at-change_at, child_elements-cut, child_elements-put, this_kid}
use Rattle.edit_ops.specs.declared.change.Change.{Change}
use Rattle.edit_ops.specs.declared.change.Change.TheVariants.{CreateDocument, Insert, Replace, Remove, SetAttr, DropAttr, RemoveDocument}
use Rattle.edit_ops.specs.Changes.{FitsTree, edited}
use Rattle.edit_ops.specs.MovedPaths.{KeepsOtherElements, path_below, shift_after_remove, shift_after_insert, path_with_new_rest, change_path_below, if_none_then}
use Rattle.edit_ops.proofs.WayLemmas.{path_below-other, path_below-same, path_below-whole, front-apart, front-none}

-- ---- items beside one that is inserted or removed

behind_gap : {A : Type 0} (xs : List A) (j : ℕ) (e : A) (n : ℕ) → j ≤ n → j ≤ length xs → slice_get (insert xs j e) (suc n) ≡ slice_get xs n
behind_gap xs zero e n le h = refl
behind_gap [] (suc j) e n le h = absurd (omega arith)
behind_gap (x ∷ xs) (suc j) e zero le h = absurd (omega arith)
behind_gap (x ∷ xs) (suc j) e (suc n) le h = behind_gap xs j e n (omega arith) (omega arith)

before_gap : {A : Type 0} (xs : List A) (j : ℕ) (e : A) (n : ℕ) → n < j → j ≤ length xs → slice_get (insert xs j e) n ≡ slice_get xs n
before_gap xs zero e n lt h = absurd (omega arith)
before_gap [] (suc j) e n lt h = absurd (omega arith)
before_gap (x ∷ xs) (suc j) e zero lt h = refl
before_gap (x ∷ xs) (suc j) e (suc n) lt h = before_gap xs j e n (omega arith) (omega arith)

behind_hole : {A : Type 0} (xs : List A) (i n : ℕ) → i < suc n → slice_get (remove xs i) n ≡ slice_get xs (suc n)
behind_hole [] zero n lt = refl
behind_hole [] (suc i) n lt = refl
behind_hole (x ∷ xs) zero n lt = refl
behind_hole (x ∷ xs) (suc i) zero lt = absurd (omega arith)
behind_hole (x ∷ xs) (suc i) (suc n) lt = behind_hole xs i n (omega arith)

behind_hole_less : {A : Type 0} (xs : List A) (i n : ℕ) → i < n → slice_get (remove xs i) (n - 1) ≡ slice_get xs n
behind_hole_less xs i zero lt = absurd (omega arith)
behind_hole_less xs i (suc n) lt = let e : suc n - 1 ≡ n = omega arith in ap (slice_get (remove xs i)) e ∙ behind_hole xs i n lt

before_hole : {A : Type 0} (xs : List A) (i n : ℕ) → n < i → slice_get (remove xs i) n ≡ slice_get xs n
before_hole [] zero n lt = absurd (omega arith)
before_hole [] (suc i) n lt = refl
before_hole (x ∷ xs) zero n lt = absurd (omega arith)
before_hole (x ∷ xs) (suc i) zero lt = refl
before_hole (x ∷ xs) (suc i) (suc n) lt = before_hole xs i n (omega arith)

-- ---- a path that leads through a changed element

-- the change g of the element at q moves what is below that element as f does
abbrev Shifts : (List ℕ → List ℕ) → (Tree → Tree) → List ℕ → List ℕ → Tree → Type 0
Shifts f g q p t = (n : ℕ) (r : List ℕ) (e : Tree) → path_below q p ≡ Some (n ∷ r) → at q t ≡ Some e → at (f (n ∷ r)) (g e) ≡ at (n ∷ r) e

longer : (f : List ℕ → List ℕ) (m : ℕ) (q p : List ℕ) (o : Option (List ℕ)) → path_with_new_rest f (m ∷ q) (m ∷ p) o ≡ m ∷ path_with_new_rest f q p o
longer f m q p None = refl
longer f m q p (Some r) = refl

below : (o : Option Tree) (u p : List ℕ) (g : Tree → Tree) → ((k : Tree) → o ≡ Some k → at u (g k) ≡ at p k) → option_and_then (at u) (option_map g o) ≡ option_and_then (at p) o
below None u p g h = refl
below (Some k) u p g h = h k refl

same_way : (m : ℕ) (q p : List ℕ) (f : List ℕ → List ℕ) (g : Tree → Tree) (t : Tree) → path_below (m ∷ p) (m ∷ q) ≡ None → Shifts f g (m ∷ q) (m ∷ p) t
    → ((k : Tree) → path_below p q ≡ None → Shifts f g q p k → at (change_path_below f q p) (change_at q g k) ≡ at p k) → at (change_path_below f (m ∷ q) (m ∷ p)) (change_at (m ∷ q) g t) ≡ at (m ∷ p) t
same_way m q p f g t away shifts ih =
    ap (λ u. at u (change_at (m ∷ q) g t)) (ap (path_with_new_rest f (m ∷ q) (m ∷ p)) (path_below-same m q p) ∙ longer f m q p (path_below q p))
    ∙ ap (option_and_then (at (change_path_below f q p))) (this_kid m (change_at q g) t.content)
    ∙ below (slice_get (child_elements_of t) m) (change_path_below f q p) p (change_at q g)
    (λ k is. ih k (sym (path_below-same m p q) ∙ away) (λ n r e b there. shifts n r e (path_below-same m q p ∙ b) (ap (option_and_then (at q)) is ∙ there)))

other_way : (m n : ℕ) (q p : List ℕ) (f : List ℕ → List ℕ) (g : Tree → Tree) (t : Tree) → (m ≡ n → ⊥) → at (change_path_below f (m ∷ q) (n ∷ p)) (change_at (m ∷ q) g t) ≡ at (n ∷ p) t
other_way m n q p f g t ne =
    ap (λ o. at (path_with_new_rest f (m ∷ q) (n ∷ p) o) (change_at (m ∷ q) g t)) (path_below-other m n q p ne) ∙ at-change_at (m ∷ q) (n ∷ p) g t (inl ne)

pub at-change_path_below : (q p : List ℕ) (f : List ℕ → List ℕ) (g : Tree → Tree) (t : Tree) → path_below p q ≡ None → Shifts f g q p t → at (change_path_below f q p) (change_at q g t) ≡ at p t
at-change_path_below [] [] f g t away shifts = absurd (cc)
at-change_path_below [] (n ∷ p) f g t away shifts = shifts n p t refl refl
at-change_path_below (m ∷ q) [] f g t away shifts = absurd (cc)
at-change_path_below (m ∷ q) (n ∷ p) f g t away shifts =
    ⊎_elim
    (λ same. subst (λ x. path_below (x ∷ p) (m ∷ q) ≡ None → Shifts f g (m ∷ q) (x ∷ p) t → at (change_path_below f (m ∷ q) (x ∷ p)) (change_at (m ∷ q) g t) ≡ at (x ∷ p) t) same
    (λ away' shifts'. same_way m q p f g t away' shifts' (λ k. at-change_path_below q p f g k)) away shifts)
    (λ ne. other_way m n q p f g t ne)
    (cases_eq m n)

-- ---- an element inserted into a gap, or removed

room : (j n : ℕ) (r : List ℕ) (k e : Tree) → j ≤ length (child_elements_of e) → at (shift_after_insert j (n ∷ r)) (put_kid j k e) ≡ at (n ∷ r) e
room j n r k e h =
    ⊎_elim
    (λ lt. ap (λ b. at (cond b (suc n) n ∷ r) (put_kid j k e)) (lt-leb j n lt) ∙ ap (option_and_then (at r)) (ap (λ l. slice_get l n) (child_elements-put j k e.content h) ∙ before_gap (child_elements_of e) j k n lt h))
    (λ le. ap (λ b. at (cond b (suc n) n ∷ r) (put_kid j k e)) (le-leb j n le)
    ∙ ap (option_and_then (at r)) (ap (λ l. slice_get l (suc n)) (child_elements-put j k e.content h) ∙ behind_gap (child_elements_of e) j k n le h))
    (cases_lt n j)

hole : (i n : ℕ) (r : List ℕ) (e : Tree) → (i ≡ n → ⊥) → at (shift_after_remove i (n ∷ r)) (cut_child i e) ≡ at (n ∷ r) e
hole i n r e ne =
    ⊎_elim
    (λ same. absurd (ne same))
    (⊎_elim
    (λ lt. ap (λ b. at (cond b (n - 1) n ∷ r) (cut_child i e)) (le-leb (suc i) n (omega arith))
    ∙ ap (option_and_then (at r)) (ap (λ l. slice_get l (n - 1)) (child_elements-cut i e.content) ∙ behind_hole_less (child_elements_of e) i n lt))
    (λ lt. ap (λ b. at (cond b (n - 1) n ∷ r) (cut_child i e)) (lt-leb (suc i) n (omega arith))
    ∙ ap (option_and_then (at r)) (ap (λ l. slice_get l n) (child_elements-cut i e.content) ∙ before_hole (child_elements_of e) i n lt)))
    (cases_order i n)

after_insert : (q p : List ℕ) (j : ℕ) (k t : Tree) → IsSomeAnd (at q t) (λ e. j ≤ length (child_elements_of e)) → path_below p q ≡ None → at (change_path_below (shift_after_insert j) q p) (put_in q j k t) ≡ at p t
after_insert q p j k t fits away =
    at-change_path_below q p (shift_after_insert j) (put_kid j k) t away (λ n r e b is. room j n r k e (from_there (at q t) (λ x. j ≤ length (child_elements_of x)) e fits is))

after_remove : (q p : List ℕ) (t : Tree) → 0 < length q → path_below p q ≡ None → path_below q p ≡ None → at (change_path_below (shift_after_remove (last_number q)) (parent_path q) p) (cut_out q t) ≡ at p t
after_remove q p t some away gone =
    at-change_path_below (parent_path q) p (shift_after_remove (last_number q)) (cut_child (last_number q)) t (front-none p q away) (λ n r e b is. hole (last_number q) n r e (front-apart q p n r some gone b))

-- ---- a change that moves nothing

stays_if : (f : List ℕ → List ℕ) (q p : List ℕ) (o : Option (List ℕ)) → ((r : List ℕ) → o ≡ Some r → p ≡ q ++ r) → ((r : List ℕ) → f r ≡ r) → path_with_new_rest f q p o ≡ p
stays_if f q p None whole same = refl
stays_if f q p (Some r) whole same = ap (λ x. q ++ x) (same r) ∙ sym (whole r refl)

unmoved : (q p : List ℕ) (g : Tree → Tree) (t : Tree) → path_below p q ≡ None → ((e : Tree) → (g e).content ≡ e.content) → at p (change_at q g t) ≡ at p t
unmoved q p g t away same =
    ap (λ x. at x (change_at q g t)) (sym (stays_if (λ r. r) q p (path_below q p) (path_below-whole q p) (λ r. refl)))
    ∙ at-change_path_below q p (λ r. r) g t away (λ n r e b is. ap (λ c. option_and_then (at r) (slice_get (child_elements c) n)) (same e))

kept_there : (o : Option (List ℕ)) {B : Type 0} (x y : B) → if_none_then o x ≡ Some y → (o ≡ None) × (x ≡ y)
kept_there None x y h = (refl, cc)
kept_there (Some r) x y h = absurd (cc)

-- ---- every change

-- a change at q, where p doesn't lead through q nor q through p
parted : (q p : List ℕ) (g : Tree → Tree) (t : Tree) → path_below p q ≡ None → path_below q p ≡ None → at p (change_at q g t) ≡ at p t
parted q p g t away gone =
    ap (λ o. at (path_with_new_rest (λ r. r) q p o) (change_at q g t)) (sym gone) ∙ at-change_path_below q p (λ r. r) g t away (λ n r e b is. absurd (let c : None ≡ Some (n ∷ r) = sym gone ∙ b in cc))

pub others_stay : (t : Tree) (change : Change) → FitsTree t change → KeepsOtherElements t change (edited t change)
others_stay t (CreateDocument root) fits p q away is = absurd fits
others_stay t (Insert parent gap element) fits p q away is =
    let e : change_path_below (shift_after_insert gap) parent p ≡ q = cc in ap (λ x. at x (put_in parent gap element t)) (sym e) ∙ after_insert parent p gap element t fits away
others_stay t (Replace w element) fits p q away is =
    let k = kept_there (path_below w p) p q is in ap (λ x. at x (put_over w element t)) (sym k.1) ∙ parted w p (λ _. element) t away k.0
others_stay t (Remove w) fits p q away is =
    let k = kept_there (path_below w p) (change_path_below (shift_after_remove (last_number w)) (parent_path w) p) q is in ap (λ x. at x (cut_out w t)) (sym k.1) ∙ after_remove w p t fits.0 away k.0
others_stay t (SetAttr w name value) fits p q away is = let e : p ≡ q = cc in ap (λ x. at x (set_attr_at w name value t)) (sym e) ∙ unmoved w p (set_attr_value name value) t away (λ e. refl)
others_stay t (DropAttr w name) fits p q away is = let e : p ≡ q = cc in ap (λ x. at x (drop_attr_at w name t)) (sym e) ∙ unmoved w p (drop_attr name) t away (λ e. refl)
others_stay t RemoveDocument fits p q away is = absurd fits
