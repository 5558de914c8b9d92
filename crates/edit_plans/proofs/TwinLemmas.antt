-- Siblings with the element kind and the key of a new element.
use Rattle.std.proofs.Common.{◌≡◌, ◌↔◌, ◌⊎◌, ◌<◌, ◌≤◌, ◌+◌, ◌-◌, inl, inr, ℕ, suc, Bool, true, false, cond, nat_lt, List, length, remove, Option, Some, None, option_map, option_and_then, slice_get, IsTrue, IfSome, refl, sym, ap, ◌∙◌, subst, arith}
use Rattle.std.proofs.lemmas.Option.{same_Some, none-some, slice_get_within}
use Rattle.std.proofs.lemmas.Bool.{cases_lt, cases_order}
use Rattle.xml_tree.specs.Tree.{Tree}
use Rattle.xml_names.specs.declared.names.Attr.{Attr}
use Rattle.usage_docs.specs.declared.schema_table.ElementKind.{ElementKind}
use Rattle.usage_docs.specs.declared.schema_table.Key.{Key}
use Rattle.usage_docs.specs.SchemaTable.{Scope}
use Rattle.usage_docs.specs.KeyAttributes.{key_of, value_of, key_value}
use Rattle.usage_docs.specs.UniqueKeys.{SiblingKey, sibling_key, sibling_key_of, sibling_key_at, RepeatsKeyAt}
use Rattle.usage_docs.specs.ElementKinds.{kind_of_child}
use Rattle.edit_rules.specs.NewElements.{IsDuplicate, HasNoDuplicate}
use Rattle.edit_plans.specs.declared.siblings.DuplicateKey.{DuplicateKey}
use Rattle.edit_rules.proofs.ClashesBeside.{one_twin}
use Rattle.edit_rules.proofs.RemovedElements.{get_removed, old_clash}
use Rattle.edit_plans.specs.inner.ChildChangeResults.{number_among_siblings, siblings_without}

-- ---- a mark and its parts

pub mark_with : (row : ElementKind) (c : Scope) (e : Tree) (kind : ElementKind) (key : Key) (value : List ℕ) → kind_of_child row c e ≡ Some kind → key_of kind ≡ Some key → value_of key e.attrs ≡ Some value → sibling_key_of row c e ≡ Some (sibling_key kind value)
unfolding sibling_key_of key_value
mark_with row c e kind key value k w v = rw (k, w, v)

pub unmarked_kind : (row : ElementKind) (c : Scope) (e : Tree) → kind_of_child row c e ≡ None → sibling_key_of row c e ≡ None
unfolding sibling_key_of
unmarked_kind row c e k = rw k refl

pub unmarked_key : (row : ElementKind) (c : Scope) (e : Tree) (kind : ElementKind) → kind_of_child row c e ≡ Some kind → key_of kind ≡ None → sibling_key_of row c e ≡ None
unfolding sibling_key_of key_value
unmarked_key row c e kind k w = rw (k, w) refl

pub unmarked_value : (row : ElementKind) (c : Scope) (e : Tree) (kind : ElementKind) (key : Key) → kind_of_child row c e ≡ Some kind → key_of kind ≡ Some key → value_of key e.attrs ≡ None → sibling_key_of row c e ≡ None
unfolding sibling_key_of key_value
unmarked_value row c e kind key k w v = rw (k, w, v) refl

record Given (kind : ElementKind) (o : Option (List ℕ)) (m : SiblingKey) : Type 0 where
  same_kind : kind ≡ m.kind
  is_value : o ≡ Some m.value

given : (kind : ElementKind) (o : Option (List ℕ)) (m : SiblingKey) → option_map (sibling_key kind) o ≡ Some m → Given kind o m
given kind None m h = cc
given kind (Some v) m h =
    let e = same_Some (sibling_key kind v) m h in
    record { same_kind = ap (λ (x : SiblingKey). x.kind) e; is_value = ap (λ (x : SiblingKey). Some x.value) e }

parts : (o : Option ElementKind) (ats : List Attr) (m : SiblingKey) → option_and_then (λ kind. option_map (sibling_key kind) (key_value kind ats)) o ≡ Some m → (o ≡ Some m.kind) × (key_value m.kind ats ≡ Some m.value)
parts None ats m h = cc
parts (Some kind) ats m h =
    let g = given kind (key_value kind ats) m h in
    (ap (λ (k : ElementKind). Some k) g.same_kind, subst (λ (k : ElementKind). key_value k ats ≡ Some m.value) g.same_kind g.is_value)

mark_parts : (row : ElementKind) (c : Scope) (e : Tree) (m : SiblingKey) → sibling_key_of row c e ≡ Some m → (kind_of_child row c e ≡ Some m.kind) × (key_value m.kind e.attrs ≡ Some m.value)
unfolding sibling_key_of
mark_parts row c e m h = parts (kind_of_child row c e) e.attrs m h

value_by : (kind : ElementKind) (key : Key) (ats : List Attr) → key_of kind ≡ Some key → key_value kind ats ≡ value_of key ats
unfolding key_value
value_by kind key ats k = rw k

pub other_value : (row : ElementKind) (c : Scope) (e : Tree) (kind : ElementKind) (key : Key) (value : List ℕ) → key_of kind ≡ Some key → (value_of key e.attrs ≡ Some value → ⊥) → sibling_key_of row c e ≡ Some (sibling_key kind value) → ⊥
other_value row c e kind key value by_key other h = other (sym (value_by kind key e.attrs by_key) ∙ (mark_parts row c e (sibling_key kind value) h).1)

pub marked_by_kind : (row : ElementKind) (c : Scope) (e : Tree) (own kind : ElementKind) (key : Key) (value : List ℕ) (b : Bool) → kind_of_child row c e ≡ Some own → key_of kind ≡ Some key → value_of key e.attrs ≡ Some value → IsTrue b ↔ (own ≡ kind) → IsTrue b ↔ (sibling_key_of row c e ≡ Some (sibling_key kind value))
marked_by_kind row c e own kind key value b is by_key has test = (
  λ h. mark_with row c e kind key value (is ∙ ap (λ (k : ElementKind). Some k) (test.0 h)) by_key has,
  λ h. test.1 (same_Some own kind (sym is ∙ (mark_parts row c e (sibling_key kind value) h).0)),
)

-- ---- duplicates

pub twin_is : (row : ElementKind) (c : Scope) (child_elements : List Tree) (new : Tree) (kind : ElementKind) (key : Key) (value : List ℕ) (i : ℕ) → kind_of_child row c new ≡ Some kind → key_of kind ≡ Some key → value_of key new.attrs ≡ Some value → sibling_key_at row c child_elements i ≡ Some (sibling_key kind value) → IsDuplicate (record { kind = row; scope = c; elements = child_elements }) new i key
twin_is row c child_elements new kind key value i k w v that = record { shared = sibling_key kind value; that = that; of_new = mark_with row c new kind key value k w v; by_key = w }

pub no_twin_unmarked : (row : ElementKind) (c : Scope) (child_elements : List Tree) (new : Tree) → sibling_key_of row c new ≡ None → HasNoDuplicate (record { kind = row; scope = c; elements = child_elements }) new
no_twin_unmarked row c child_elements new none i key t = none-some t.shared (sym none ∙ t.of_new)

-- ---- among the others

-- a child that isn't left out, by its number among the others
pub get_among : (left_out : Option ℕ) (child_elements : List Tree) (j : ℕ) → (left_out ≡ Some j → ⊥) → slice_get (siblings_without left_out child_elements) (number_among_siblings left_out j) ≡ slice_get child_elements j
get_among None child_elements j other = refl
get_among (Some i) child_elements j other = by (cases_order i j)
  where
    by : (i ≡ j) ⊎ ((i < j) ⊎ (j < i)) → slice_get (remove child_elements i) (cond (nat_lt i j) (j - 1) j) ≡ slice_get child_elements j
    by (inl same) = absurd (other (ap (λ (n : ℕ). Some n) same))
    by (inr (inl lt)) =
        let before : nat_lt i j ≡ true = grind arith in
        let up : suc (j - 1) ≡ j = omega arith in
        ap (λ (b : Bool). slice_get (remove child_elements i) (cond b (j - 1) j)) before ∙ (get_removed child_elements i (j - 1)).1 (omega arith) ∙ ap (slice_get child_elements) up
    by (inr (inr lt)) =
        let behind : nat_lt i j ≡ false = grind arith in
        ap (λ (b : Bool). slice_get (remove child_elements i) (cond b (j - 1) j)) behind ∙ (get_removed child_elements i j).0 lt

-- one of the others, by its number among all
came_from : (left_out : Option ℕ) (child_elements : List Tree) (k : ℕ) → (j : ℕ) × ((left_out ≡ Some j → ⊥) × (slice_get (siblings_without left_out child_elements) k ≡ slice_get child_elements j))
came_from None child_elements k = (k, (λ e. cc, refl))
came_from (Some i) child_elements k =
    elim (cases_lt k i) [
      | inl lt ↦ (k, (λ e. let same : i ≡ k = cc in absurd (omega arith), (get_removed child_elements i k).0 lt))
      | inr le ↦ (suc k, (λ e. let same : i ≡ suc k = cc in absurd (omega arith), (get_removed child_elements i k).1 le))
    ]

-- the others don't clash, where all children don't
pub clean_others : (row : ElementKind) (c : Scope) (left_out : Option ℕ) (child_elements : List Tree) → ((r : List ℕ) (key : Key) → RepeatsKeyAt row c child_elements r key → ⊥) → (r : List ℕ) (key : Key) → RepeatsKeyAt row c (siblings_without left_out child_elements) r key → ⊥
clean_others row c None child_elements clean r key h = clean r key h
clean_others row c (Some i) child_elements clean r key h = let o = old_clash row c child_elements i r key h in clean o.0 key o.1

pub mark_among : (row : ElementKind) (c : Scope) (left_out : Option ℕ) (child_elements : List Tree) (j : ℕ) (m : SiblingKey) → (left_out ≡ Some j → ⊥) → sibling_key_at row c child_elements j ≡ Some m → sibling_key_at row c (siblings_without left_out child_elements) (number_among_siblings left_out j) ≡ Some m
mark_among row c left_out child_elements j m other h = ap (option_and_then (sibling_key_of row c)) (get_among left_out child_elements j other) ∙ h

pub no_twin_marked : (row : ElementKind) (c : Scope) (left_out : Option ℕ) (child_elements : List Tree) (new : Tree) (m : SiblingKey) → sibling_key_of row c new ≡ Some m → ((j : ℕ) → (left_out ≡ Some j → ⊥) → sibling_key_at row c child_elements j ≡ Some m → ⊥) → HasNoDuplicate (record { kind = row; scope = c; elements = siblings_without left_out child_elements }) new
no_twin_marked row c left_out child_elements new m is none i key t =
    let j = came_from left_out child_elements i in
    none j.0 j.1.0 (sym (ap (option_and_then (sibling_key_of row c)) j.1.1) ∙ t.that ∙ sym t.of_new ∙ is)

-- none of the first n children that aren't left out has the mark
abbrev pub NoneMarked : ElementKind → Scope → List Tree → SiblingKey → Option ℕ → ℕ → Type 0
NoneMarked row c child_elements m left_out n = (k : ℕ) → k < n → (left_out ≡ Some k → ⊥) → sibling_key_at row c child_elements k ≡ Some m → ⊥

pub no_more_marked : (row : ElementKind) (c : Scope) (child_elements : List Tree) (m : SiblingKey) (left_out : Option ℕ) (i i' : ℕ) (child_element : Tree) → i' ≡ i + 1 → slice_get child_elements i ≡ Some child_element → ((left_out ≡ Some i → ⊥) × (sibling_key_of row c child_element ≡ Some m) → ⊥) → NoneMarked row c child_elements m left_out i → NoneMarked row c child_elements m left_out i'
no_more_marked row c child_elements m left_out i i' child_element next there not_this none k lt other h =
    elim (cases_lt k i) [
      | inl below ↦ none k below other h
      | inr from ↦ (
          let same : k ≡ i = omega arith in
          not_this ((λ e. other (e ∙ ap (λ (n : ℕ). Some n) (sym same))), sym (ap (option_and_then (sibling_key_of row c)) there) ∙ ap (sibling_key_at row c child_elements) (sym same) ∙ h))
    ]

mark_within : (row : ElementKind) (c : Scope) (child_elements : List Tree) (i : ℕ) (m : SiblingKey) (o : Option Tree) → slice_get child_elements i ≡ o → option_and_then (sibling_key_of row c) o ≡ Some m → i < length child_elements
mark_within row c child_elements i m None there h = cc
mark_within row c child_elements i m (Some child_element) there h = slice_get_within child_elements i child_element there

pub none_marked : (row : ElementKind) (c : Scope) (child_elements : List Tree) (m : SiblingKey) (left_out : Option ℕ) (i : ℕ) → i ≡ length child_elements → NoneMarked row c child_elements m left_out i → (k : ℕ) → (left_out ≡ Some k → ⊥) → sibling_key_at row c child_elements k ≡ Some m → ⊥
none_marked row c child_elements m left_out i end none k other h = none k (let lt = mark_within row c child_elements k m (slice_get child_elements k) refl h in omega arith) other h

-- ---- no duplicate before the insertion point

pub none_before : (row : ElementKind) (c : Scope) (child_elements : List Tree) (new : Tree) (gap : ℕ) → gap ≤ length child_elements → ((r : List ℕ) (key : Key) → RepeatsKeyAt row c child_elements r key → ⊥) → (o : Option DuplicateKey)
    → ((t : DuplicateKey) → o ≡ Some t → IsDuplicate (record { kind = row; scope = c; elements = child_elements }) new t.child t.key) → (o ≡ None → HasNoDuplicate (record { kind = row; scope = c; elements = child_elements }) new) → ((t : DuplicateKey) → o ≡ Some t → gap ≤ t.child)
    → (i : ℕ) (key : Key) → i < gap → IsDuplicate (record { kind = row; scope = c; elements = child_elements }) new i key → ⊥
none_before row c child_elements new gap le unique None found none later i key lt t = none refl i key t
none_before row c child_elements new gap le unique (Some twin) found none later i key lt t =
    let same = one_twin row c child_elements new gap le unique i twin.child key twin.key t (found twin refl) in
    let from = later twin refl in
    omega arith

pub twin_at : (row : ElementKind) (c : Scope) (child_elements : List Tree) (new : Tree) (o : Option DuplicateKey) → IfSome o (λ t. IsDuplicate (record { kind = row; scope = c; elements = child_elements }) new t.child t.key) → (t : DuplicateKey) → o ≡ Some t → IsDuplicate (record { kind = row; scope = c; elements = child_elements }) new t.child t.key
twin_at row c child_elements new o h t is = subst (λ (x : Option DuplicateKey). IfSome x (λ t. IsDuplicate (record { kind = row; scope = c; elements = child_elements }) new t.child t.key)) is h
