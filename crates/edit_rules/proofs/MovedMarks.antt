-- The marks along a path stay as a change moves it.
use Rattle.std.proofs.Common.{◌≡◌, ◌-◌, ◌<◌, ◌≤◌, ℕ, zero, suc, Bool, true, false, cond, List, [], ◌∷◌, ◌++◌, length, remove, Option, None, Some, find, IsSome, slice_get, option_map, option_and_then, refl, sym, ap, ◌∙◌, subst, ⊎_elim, arith}
use Rattle.std.specs.Prelude.{◌&&◌, nat_le}
use Rattle.std.specs.Str.{bytes_eq}
use Rattle.std.proofs.lemmas.Bool.{cases_eq, cases_order, le-leb, lt-leb}
use Rattle.std.proofs.lemmas.Slice.Eq.{bytes_eq-Decides}
use Rattle.xml_tree.specs.Tree.{Tree, at, child_elements, child_elements_of}
use Rattle.xml_names.specs.Attributes.{with_new_value, with_attr, without_attr, has_qname as is_named}
use Rattle.xml_tree.specs.Edits.{change_at, cut_child, drop_attr, last_number, parent_path, put_kid, set_attr_value}
use Rattle.xml_names.specs.declared.names.Attr.{Attr}
use Rattle.xml_names.specs.declared.names.Name.{Name}
use Rattle.xml_tree.proofs.PathLemmas.{from_there}
use Rattle.xml_tree.proofs.PlaceLaws.{child_elements-cut, other_kid, this_kid}
use Rattle.xml_tree.specs.TreeScopes.{inside}
use Rattle.doc_names.specs.declared.usages.Usage.{Usage}
use Rattle.usage_docs.specs.declared.schema_table.ElementKind.{ElementKind}
use Rattle.usage_docs.specs.declared.schema_table.Key.{Key}
use Rattle.usage_docs.specs.SchemaTable.{Scope, kind_of, root_kind}
use Rattle.usage_docs.specs.KeyAttributes.{is_key_attribute, key_of, key_value, value_of, attribute_name}
use Rattle.usage_docs.specs.UniqueKeys.{SiblingKey, sibling_key, sibling_key_of}
use Rattle.edit_ops.specs.declared.change.Change.{Change}
use Rattle.edit_ops.specs.declared.change.Change.TheVariants.{CreateDocument, Insert, Replace, Remove, SetAttr, DropAttr, RemoveDocument}
use Rattle.edit_ops.specs.Changes.{FitsTree, edited}
use Rattle.edit_ops.specs.MovedPaths.{path_below, shift_after_remove, shift_after_insert, moved, path_with_new_rest, change_path_below, if_none_then}
use Rattle.edit_ops.proofs.MoveLaws.{others_stay}
use Rattle.edit_ops.proofs.WayLemmas.{path_below-other, path_below-same, path_below-whole, front-apart}
use Rattle.usage_docs.specs.ElementKinds.{kind_below}
use Rattle.edit_rules.proofs.Marks.{marks_along}
use Rattle.edit_rules.specs.KeyWrites.{IsKeyOnPath, WritesKeyOnPath}
use Rattle.edit_rules.proofs.StepMarks.{mark_says}

-- ---- an element whose name and key are unchanged has the same mark

mark_if : (o : Option ElementKind) (ats ats' : List Attr) → ((kind : ElementKind) → o ≡ Some kind → key_value kind ats' ≡ key_value kind ats)
    → option_and_then (λ kind. option_map (sibling_key kind) (key_value kind ats')) o ≡ option_and_then (λ kind. option_map (sibling_key kind) (key_value kind ats)) o
mark_if None ats ats' h = refl
mark_if (Some kind) ats ats' h = ap (option_map (sibling_key kind)) (h kind refl)

same_mark : (row : ElementKind) (c : Scope) (e new : Tree) → new.name ≡ e.name → new.decls ≡ e.decls → ((kind : ElementKind) → kind_of row (inside c e) e.name ≡ Some kind → key_value kind new.attrs ≡ key_value kind e.attrs)
    → sibling_key_of row c new ≡ sibling_key_of row c e
unfolding sibling_key_of
same_mark row c e new name decls value =
    ap (option_and_then (λ kind. option_map (sibling_key kind) (key_value kind new.attrs))) (ap (kind_of row (inside c new)) name ∙ ap (λ ds. kind_of row (c ++ ds ∷ []) e.name) decls)
    ∙ mark_if (kind_of row (inside c e) e.name) e.attrs new.attrs value

-- ---- a path that leads through a changed element

-- what the change leaves of the element at q, from which the path continues with r: its name, its
-- key, and the marks below it, as f moves r
record Alike (f : List ℕ → List ℕ) (row : ElementKind) (c : Scope) (t : Tree) (q r : List ℕ) (e new : Tree) : Type 0 where
  name : new.name ≡ e.name
  decls : new.decls ≡ e.decls
  value : (kind : ElementKind) → kind_below row c t q ≡ Some kind → key_value kind new.attrs ≡ key_value kind e.attrs
  below : (row' : ElementKind) (c' : Scope) → marks_along row' c' (child_elements_of new) (f r) ≡ marks_along row' c' (child_elements_of e) r

abbrev Fair : (List ℕ → List ℕ) → (Tree → Tree) → ElementKind → Scope → Tree → List ℕ → List ℕ → Type 0
Fair f g row c t q p = (e : Tree) (r : List ℕ) → at q t ≡ Some e → path_below q p ≡ Some r → Alike f row c t q r e (g e)

longer : (f : List ℕ → List ℕ) (m : ℕ) (q p : List ℕ) (o : Option (List ℕ)) → path_with_new_rest f (m ∷ q) (m ∷ p) o ≡ m ∷ path_with_new_rest f q p o
longer f m q p None = refl
longer f m q p (Some r) = refl

kind_next : (row : ElementKind) (c : Scope) (t k : Tree) (m : ℕ) (q : List ℕ) (kind : ElementKind) → slice_get (child_elements_of t) m ≡ Some k → kind_of row (inside c k) k.name ≡ Some kind → kind_below row c t (m ∷ q) ≡ kind_below kind (inside c k) k q
kind_next row c t k m q kind there of_kind =
    ap (option_and_then (λ child_element. option_and_then (λ x. kind_below x (inside c child_element) child_element q) (kind_of row (inside c child_element) child_element.name))) there ∙ ap (option_and_then (λ x. kind_below x (inside c k) k q)) of_kind

same_tag : (m : ℕ) (q p : List ℕ) (f : List ℕ → List ℕ) (g : Tree → Tree) (row : ElementKind) (c : Scope) (t k : Tree) → Fair f g row c t (m ∷ q) (m ∷ p) → slice_get (child_elements_of t) m ≡ Some k
    → ((change_at q g k).name ≡ k.name) × ((change_at q g k).decls ≡ k.decls) × ((kind : ElementKind) → kind_of row (inside c k) k.name ≡ Some kind → key_value kind (change_at q g k).attrs ≡ key_value kind k.attrs)
same_tag m [] p f g row c t k fair there =
    let a = fair k p (ap (option_and_then (at [])) there) (path_below-same m [] p) in
    (a.name, a.decls, λ kind of_kind. a.value kind (kind_next row c t k m [] kind there of_kind))
same_tag m (n ∷ q) p f g row c t k fair there = (refl, refl, λ kind of_kind. refl)

-- what a path says of a child
abbrev along_kid : ElementKind → Scope → List ℕ → Tree → Option (List SiblingKey)
along_kid row c p child_element = option_and_then (λ m. option_map (λ ms. m ∷ ms) (marks_along m.kind (inside c child_element) (child_elements_of child_element) p)) (sibling_key_of row c child_element)

kid_if : (row : ElementKind) (c : Scope) (u p : List ℕ) (k new : Tree) (o : Option SiblingKey) → sibling_key_of row c k ≡ o → new.decls ≡ k.decls
    → ((m : SiblingKey) → sibling_key_of row c k ≡ Some m → marks_along m.kind (inside c k) (child_elements_of new) u ≡ marks_along m.kind (inside c k) (child_elements_of k) p)
    → option_and_then (λ m. option_map (λ ms. m ∷ ms) (marks_along m.kind (inside c new) (child_elements_of new) u)) o ≡ option_and_then (λ m. option_map (λ ms. m ∷ ms) (marks_along m.kind (inside c k) (child_elements_of k) p)) o
kid_if row c u p k new None is decls h = refl
kid_if row c u p k new (Some m) is decls h = ap (option_map (λ ms. m ∷ ms)) (ap (λ ds. marks_along m.kind (c ++ ds ∷ []) (child_elements_of new) u) decls ∙ h m is)

kid_same : (row : ElementKind) (c : Scope) (u p : List ℕ) (k new : Tree) → sibling_key_of row c new ≡ sibling_key_of row c k → new.decls ≡ k.decls
    → ((m : SiblingKey) → sibling_key_of row c k ≡ Some m → marks_along m.kind (inside c k) (child_elements_of new) u ≡ marks_along m.kind (inside c k) (child_elements_of k) p) → along_kid row c u new ≡ along_kid row c p k
kid_same row c u p k new is decls h =
    ap (option_and_then (λ m. option_map (λ ms. m ∷ ms) (marks_along m.kind (inside c new) (child_elements_of new) u))) is ∙ kid_if row c u p k new (sibling_key_of row c k) refl decls h

below : (o : Option Tree) (F G : Tree → Option (List SiblingKey)) (g : Tree → Tree) → ((k : Tree) → o ≡ Some k → F (g k) ≡ G k) → option_and_then F (option_map g o) ≡ option_and_then G o
below None F G g h = refl
below (Some k) F G g h = h k refl

same_way : (m : ℕ) (q p : List ℕ) (f : List ℕ → List ℕ) (g : Tree → Tree) (row : ElementKind) (c : Scope) (t : Tree) → Fair f g row c t (m ∷ q) (m ∷ p)
    → ((row' : ElementKind) (c' : Scope) (k : Tree) → Fair f g row' c' k q p → marks_along row' c' (child_elements_of (change_at q g k)) (change_path_below f q p) ≡ marks_along row' c' (child_elements_of k) p)
    → marks_along row c (child_elements_of (change_at (m ∷ q) g t)) (change_path_below f (m ∷ q) (m ∷ p)) ≡ marks_along row c (child_elements_of t) (m ∷ p)
same_way m q p f g row c t fair ih =
    ap (marks_along row c (child_elements_of (change_at (m ∷ q) g t))) (ap (path_with_new_rest f (m ∷ q) (m ∷ p)) (path_below-same m q p) ∙ longer f m q p (path_below q p))
    ∙ ap (option_and_then (along_kid row c (change_path_below f q p))) (this_kid m (change_at q g) t.content)
    ∙ below (slice_get (child_elements_of t) m) (along_kid row c (change_path_below f q p)) (along_kid row c p) (change_at q g) (λ k there.
    let tag = same_tag m q p f g row c t k fair there in
    kid_same row c (change_path_below f q p) p k (change_at q g k) (same_mark row c k (change_at q g k) tag.0 tag.1 tag.2) tag.1 (λ n is.
    ih n.kind (inside c k) k (λ e r at_e b.
    let a = fair e r (ap (option_and_then (at q)) there ∙ at_e) (path_below-same m q p ∙ b) in record {
      name = a.name;
      decls = a.decls;
      value = λ kind h. a.value kind (kind_next row c t k m q n.kind there (mark_says row c k n is).0 ∙ h);
      below = a.below;
    })))

other_way : (m n : ℕ) (q p : List ℕ) (f : List ℕ → List ℕ) (g : Tree → Tree) (row : ElementKind) (c : Scope) (t : Tree) → (m ≡ n → ⊥) → marks_along row c (child_elements_of (change_at (m ∷ q) g t)) (change_path_below f (m ∷ q) (n ∷ p)) ≡ marks_along row c (child_elements_of t) (n ∷ p)
other_way m n q p f g row c t ne =
    ap (λ o. marks_along row c (child_elements_of (change_at (m ∷ q) g t)) (path_with_new_rest f (m ∷ q) (n ∷ p) o)) (path_below-other m n q p ne) ∙ ap (option_and_then (along_kid row c p)) (other_kid m n (change_at q g) t.content ne)

marks_under : (q p : List ℕ) (f : List ℕ → List ℕ) (g : Tree → Tree) (row : ElementKind) (c : Scope) (t : Tree) → Fair f g row c t q p → marks_along row c (child_elements_of (change_at q g t)) (change_path_below f q p) ≡ marks_along row c (child_elements_of t) p
marks_under [] p f g row c t fair = (fair t p refl refl).below row c
marks_under (m ∷ q) [] f g row c t fair = refl
marks_under (m ∷ q) (n ∷ p) f g row c t fair =
    ⊎_elim
    (λ same. subst (λ x. Fair f g row c t (m ∷ q) (x ∷ p) → marks_along row c (child_elements_of (change_at (m ∷ q) g t)) (change_path_below f (m ∷ q) (x ∷ p)) ≡ marks_along row c (child_elements_of t) (x ∷ p)) same
    (λ fair'. same_way m q p f g row c t fair' (λ row' c' k. marks_under q p f g row' c' k)) fair)
    (λ ne. other_way m n q p f g row c t ne)
    (cases_eq m n)

-- ---- an element inserted into a gap, or removed

only_some : (o : Option Tree) → option_and_then (λ e. Some e) o ≡ o
only_some None = refl
only_some (Some e) = refl

room : (j : ℕ) (r : List ℕ) (k e : Tree) (row : ElementKind) (c : Scope) → j ≤ length (child_elements_of e) → marks_along row c (child_elements_of (put_kid j k e)) (shift_after_insert j r) ≡ marks_along row c (child_elements_of e) r
room j [] k e row c h = refl
room j (n ∷ r) k e row c h =
    ap (option_and_then (along_kid row c r)) (sym (only_some (slice_get (child_elements_of (put_kid j k e)) (cond (nat_le j n) (suc n) n))) ∙ others_stay e (Insert [] j k) h (n ∷ []) (shift_after_insert j (n ∷ [])) refl refl ∙ only_some (slice_get (child_elements_of e) n))

behind_hole : {A : Type 0} (xs : List A) (i n : ℕ) → i < suc n → slice_get (remove xs i) n ≡ slice_get xs (suc n)
behind_hole [] zero n lt = refl
behind_hole [] (suc i) n lt = refl
behind_hole (x ∷ xs) zero n lt = refl
behind_hole (x ∷ xs) (suc i) zero lt = absurd (omega arith)
behind_hole (x ∷ xs) (suc i) (suc n) lt = behind_hole xs i n (omega arith)

behind_hole_less : {A : Type 0} (xs : List A) (i n : ℕ) → i < n → slice_get (remove xs i) (n - 1) ≡ slice_get xs n
behind_hole_less xs i zero lt = absurd (omega arith)
behind_hole_less xs i (suc n) lt = let e : suc n - 1 ≡ n = omega arith in ap (slice_get (remove xs i)) e ∙ behind_hole xs i n lt

before_hole : {A : Type 0} (xs : List A) (i n : ℕ) → n < i → slice_get (remove xs i) n ≡ slice_get xs n
before_hole [] zero n lt = absurd (omega arith)
before_hole [] (suc i) n lt = refl
before_hole (x ∷ xs) zero n lt = absurd (omega arith)
before_hole (x ∷ xs) (suc i) zero lt = refl
before_hole (x ∷ xs) (suc i) (suc n) lt = before_hole xs i n (omega arith)

hole : (i : ℕ) (r : List ℕ) (e : Tree) (row : ElementKind) (c : Scope) → ((n : ℕ) (s : List ℕ) → r ≡ n ∷ s → i ≡ n → ⊥) → marks_along row c (child_elements_of (cut_child i e)) (shift_after_remove i r) ≡ marks_along row c (child_elements_of e) r
hole i [] e row c ne = refl
hole i (n ∷ r) e row c ne =
    ⊎_elim
    (λ same. absurd (ne n r refl same))
    (⊎_elim
    (λ lt. ap (λ b. marks_along row c (child_elements_of (cut_child i e)) (cond b (n - 1) n ∷ r)) (le-leb (suc i) n (omega arith))
    ∙ ap (option_and_then (along_kid row c r)) (ap (λ l. slice_get l (n - 1)) (child_elements-cut i e.content) ∙ behind_hole_less (child_elements_of e) i n lt))
    (λ lt. ap (λ b. marks_along row c (child_elements_of (cut_child i e)) (cond b (n - 1) n ∷ r)) (lt-leb (suc i) n (omega arith))
    ∙ ap (option_and_then (along_kid row c r)) (ap (λ l. slice_get l n) (child_elements-cut i e.content) ∙ before_hole (child_elements_of e) i n lt)))
    (cases_order i n)

-- ---- an attribute that isn't the key

and_parts : (a b : Bool) → (a && b) ≡ true → (a ≡ true) × (b ≡ true)
and_parts true b h = (refl, h)
and_parts false b h = cc

-- an attribute whose name isn't the key's isn't the key
other_key : (key : Key) (n : Name) (a : Attr) → ((n.prefix ≡ []) → (n.local ≡ attribute_name key) → ⊥) → is_named n a ≡ true → is_key_attribute key a ≡ false
other_key key n a ne named = by (is_key_attribute key a) refl
  where
    by : (b : Bool) → is_key_attribute key a ≡ b → b ≡ false
    by false e = refl
    by true e =
        let k = and_parts (bytes_eq a.name.prefix []) (bytes_eq a.name.local (attribute_name key)) e in
        let s = and_parts (bytes_eq a.name.prefix n.prefix) (bytes_eq a.name.local n.local) named in
        let prefix = sym ((bytes_eq-Decides a.name.prefix n.prefix).0 s.0) ∙ (bytes_eq-Decides a.name.prefix []).0 k.0 in
        let local = sym ((bytes_eq-Decides a.name.local n.local).0 s.1) ∙ (bytes_eq-Decides a.name.local (attribute_name key)).0 k.1 in
        absurd (ne prefix local)

name_is : (n : Name) (v : List ℕ) → is_named n (record { name = n; value = v }) ≡ true
name_is n v = both (bytes_eq n.prefix n.prefix) (bytes_eq n.local n.local) ((bytes_eq-Decides n.prefix n.prefix).1 refl) ((bytes_eq-Decides n.local n.local).1 refl)
  where
    both : (a b : Bool) → a ≡ true → b ≡ true → (a && b) ≡ true
    both a b h g = cc

skip : (b : Bool) (a : Attr) (o : Option Attr) → b ≡ false → cond b (Some a) o ≡ o
skip true a o h = cc
skip false a o h = refl

written : (key : Key) (n : Name) (v : List ℕ) (ats : List Attr) → ((n.prefix ≡ []) → (n.local ≡ attribute_name key) → ⊥) → find (is_key_attribute key) (with_attr n v ats) ≡ find (is_key_attribute key) ats
written key n v [] ne = skip (is_key_attribute key (record { name = n; value = v })) (record { name = n; value = v }) None (other_key key n (record { name = n; value = v }) ne (name_is n v))
written key n v (a ∷ ats) ne = by (is_named n a) refl (written key n v ats ne)
  where
    by : (b : Bool) → is_named n a ≡ b → find (is_key_attribute key) (with_attr n v ats) ≡ find (is_key_attribute key) ats → find (is_key_attribute key) (cond b (with_new_value v a ∷ ats) (a ∷ with_attr n v ats)) ≡ find (is_key_attribute key) (a ∷ ats)
    by true e ih =
        let no = other_key key n a ne e in
        skip (is_key_attribute key a) (with_new_value v a) (find (is_key_attribute key) ats) no ∙ sym (skip (is_key_attribute key a) a (find (is_key_attribute key) ats) no)
    by false e ih = ap (cond (is_key_attribute key a) (Some a)) ih

dropped : (key : Key) (n : Name) (ats : List Attr) → ((n.prefix ≡ []) → (n.local ≡ attribute_name key) → ⊥) → find (is_key_attribute key) (without_attr n ats) ≡ find (is_key_attribute key) ats
dropped key n [] ne = refl
dropped key n (a ∷ ats) ne = by (is_named n a) refl (dropped key n ats ne)
  where
    by : (b : Bool) → is_named n a ≡ b → find (is_key_attribute key) (without_attr n ats) ≡ find (is_key_attribute key) ats → find (is_key_attribute key) (cond b ats (a ∷ without_attr n ats)) ≡ find (is_key_attribute key) (a ∷ ats)
    by true e ih = sym (skip (is_key_attribute key a) a (find (is_key_attribute key) ats) (other_key key n a ne e))
    by false e ih = ap (cond (is_key_attribute key a) (Some a)) ih

value_found : (key : Key) (xs ys : List Attr) → find (is_key_attribute key) xs ≡ find (is_key_attribute key) ys → value_of key xs ≡ value_of key ys
unfolding value_of
value_found key xs ys e = ap (option_map (λ (a : Attr). a.value)) e

value_kept : (kind : ElementKind) (o : Option Key) (xs ys : List Attr) → ((key : Key) → o ≡ Some key → find (is_key_attribute key) xs ≡ find (is_key_attribute key) ys) → option_and_then (λ key. value_of key xs) o ≡ option_and_then (λ key. value_of key ys) o
value_kept kind None xs ys h = refl
value_kept kind (Some key) xs ys h = value_found key xs ys (h key refl)

same_value : (kind : ElementKind) (xs ys : List Attr) → ((key : Key) → key_of kind ≡ Some key → find (is_key_attribute key) xs ≡ find (is_key_attribute key) ys) → key_value kind xs ≡ key_value kind ys
unfolding key_value
same_value kind xs ys h = value_kept kind (key_of kind) xs ys h

-- ---- every change

kept_there : (o : Option (List ℕ)) {B : Type 0} (x y : B) → if_none_then o x ≡ Some y → (o ≡ None) × (x ≡ y)
kept_there None x y h = (refl, cc)
kept_there (Some r) x y h = absurd (cc)

no_way : {A : Type 0} (o : Option A) (r : A) → o ≡ None → o ≡ Some r → ⊥
no_way o r h g = let z : None ≡ Some r = sym h ∙ g in cc

stays_if : (q p : List ℕ) (o : Option (List ℕ)) → ((r : List ℕ) → o ≡ Some r → p ≡ q ++ r) → path_with_new_rest (λ r. r) q p o ≡ p
stays_if q p None whole = refl
stays_if q p (Some r) whole = sym (whole r refl)

unmoved : (q p : List ℕ) → change_path_below (λ r. r) q p ≡ p
unmoved q p = stays_if q p (path_below q p) (path_below-whole q p)

is_there : (o : Option (List ℕ)) (r : List ℕ) → o ≡ Some r → IsSome o
is_there None r h = cc
is_there (Some x) r h = refl

module _ (u : Usage) (t : Tree) (p : List ℕ) where
  abbrev Same : Tree → List ℕ → Type 0
  Same new q = marks_along (root_kind u) (t.decls ∷ []) (child_elements_of new) q ≡ marks_along (root_kind u) (t.decls ∷ []) (child_elements_of t) p

  on_attr : (w : List ℕ) (name : Name) (g : Tree → Tree) → (IsKeyOnPath u t p w name → ⊥)
      → ((e : Tree) → ((g e).name ≡ e.name) × ((g e).decls ≡ e.decls) × ((g e).content ≡ e.content))
      → ((e : Tree) (key : Key) → ((name.prefix ≡ []) → (name.local ≡ attribute_name key) → ⊥) → find (is_key_attribute key) (g e).attrs ≡ find (is_key_attribute key) e.attrs) → Same (change_at w g t) p
  on_attr w name g free tag keeps =
      ap (marks_along (root_kind u) (t.decls ∷ []) (child_elements_of (change_at w g t))) (sym (unmoved w p))
      ∙ marks_under w p (λ r. r) g (root_kind u) (t.decls ∷ []) t (λ e r there b. record {
        name = (tag e).0;
        decls = (tag e).1;
        value = λ kind of_kind. same_value kind (g e).attrs e.attrs (λ key of_key. keeps e key (λ prefix local.
            free (record { on_path = is_there (path_below w p) r b; kind = kind; key = key; of_kind = of_kind; of_key = of_key; unprefixed = prefix; local = local })));
        below = λ row c. ap (λ k. marks_along row c (child_elements k) r) (tag e).2;
      })

  pub marks_moved : (change : Change) (q : List ℕ) → FitsTree t change → moved p change ≡ Some q → (WritesKeyOnPath u t p change → ⊥) → Same (edited t change) q
  marks_moved (CreateDocument root) q fits is free = absurd fits
  marks_moved (Insert parent gap element) q fits is free =
      let e : change_path_below (shift_after_insert gap) parent p ≡ q = cc in
      ap (marks_along (root_kind u) (t.decls ∷ []) (child_elements_of (edited t (Insert parent gap element)))) (sym e)
      ∙ marks_under parent p (shift_after_insert gap) (put_kid gap element) (root_kind u) (t.decls ∷ []) t (λ e r there b. record {
        name = refl;
        decls = refl;
        value = λ kind of_kind. refl;
        below = λ row c. room gap r element e row c (from_there (at parent t) (λ x. gap ≤ length (child_elements_of x)) e fits there);
      })
  marks_moved (Replace w element) q fits is free =
      let k = kept_there (path_below w p) p q is in
      ap (marks_along (root_kind u) (t.decls ∷ []) (child_elements_of (edited t (Replace w element)))) (sym k.1 ∙ sym (unmoved w p))
      ∙ marks_under w p (λ r. r) (λ _. element) (root_kind u) (t.decls ∷ []) t (λ e r there b. absurd (no_way (path_below w p) r k.0 b))
  marks_moved (Remove w) q fits is free =
      let k = kept_there (path_below w p) (change_path_below (shift_after_remove (last_number w)) (parent_path w) p) q is in
      ap (marks_along (root_kind u) (t.decls ∷ []) (child_elements_of (edited t (Remove w)))) (sym k.1)
      ∙ marks_under (parent_path w) p (shift_after_remove (last_number w)) (cut_child (last_number w)) (root_kind u) (t.decls ∷ []) t (λ e r there b. record {
        name = refl;
        decls = refl;
        value = λ kind of_kind. refl;
        below = λ row c. hole (last_number w) r e row c (λ n s eq same. front-apart w p n s fits.0 k.0 (b ∙ ap Some eq) same);
      })
  marks_moved (SetAttr w name value) q fits is free =
      let e : p ≡ q = cc in
      ap (marks_along (root_kind u) (t.decls ∷ []) (child_elements_of (edited t (SetAttr w name value)))) (sym e)
      ∙ on_attr w name (set_attr_value name value) free (λ e. (refl, refl, refl)) (λ e key ne. written key name value e.attrs ne)
  marks_moved (DropAttr w name) q fits is free =
      let e : p ≡ q = cc in
      ap (marks_along (root_kind u) (t.decls ∷ []) (child_elements_of (edited t (DropAttr w name)))) (sym e)
      ∙ on_attr w name (drop_attr name) free (λ e. (refl, refl, refl)) (λ e key ne. dropped key name e.attrs ne)
  marks_moved RemoveDocument q fits is free = absurd fits

-- ---- the root

-- a change at a place keeps the root's tag except its attributes, where it does so at the place
root_tag : (q : List ℕ) (g : Tree → Tree) (t : Tree) → ((g t).name ≡ t.name) × ((g t).decls ≡ t.decls) → ((change_at q g t).name ≡ t.name) × ((change_at q g t).decls ≡ t.decls)
root_tag [] g t h = h
root_tag (n ∷ q) g t h = (refl, refl)

root_beside : (w p : List ℕ) (g : Tree → Tree) (t : Tree) → path_below w p ≡ None → ((change_at w g t).name ≡ t.name) × ((change_at w g t).decls ≡ t.decls)
root_beside [] p g t h = cc
root_beside (n ∷ w) p g t h = (refl, refl)

pub root_kept : (t : Tree) (p : List ℕ) (change : Change) (q : List ℕ) → FitsTree t change → moved p change ≡ Some q → ((edited t change).name ≡ t.name) × ((edited t change).decls ≡ t.decls)
root_kept t p (CreateDocument root) q fits is = absurd fits
root_kept t p (Insert parent gap element) q fits is = root_tag parent (put_kid gap element) t (refl, refl)
root_kept t p (Replace w element) q fits is = root_beside w p (λ _. element) t (kept_there (path_below w p) p q is).0
root_kept t p (Remove w) q fits is = root_tag (parent_path w) (cut_child (last_number w)) t (refl, refl)
root_kept t p (SetAttr w name value) q fits is = root_tag w (set_attr_value name value) t (refl, refl)
root_kept t p (DropAttr w name) q fits is = root_tag w (drop_attr name) t (refl, refl)
root_kept t p RemoveDocument q fits is = absurd fits
