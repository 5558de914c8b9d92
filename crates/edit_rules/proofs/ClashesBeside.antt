-- A new element in a gap among siblings with unique keys: the resulting clashes.
use Rattle.std.proofs.Common.{◌≡◌, ◌⊎◌, inl, inr, ℕ, zero, suc, ◌<◌, ◌≤◌, List, [], ◌∷◌, length, insert, Some, option_and_then, slice_get, refl, sym, ap, ◌∙◌, subst, arith}
use Rattle.std.proofs.lemmas.Option.{same_Some}
use Rattle.std.proofs.lemmas.Bool.{cases_order}
use Rattle.node_select.proofs.ListEdits.{get-insert_before, get-insert_at, get-insert_behind}
use Rattle.xml_tree.specs.Tree.{Tree, child_elements_of}
use Rattle.xml_tree.specs.TreeScopes.{inside}
use Rattle.usage_docs.specs.declared.schema_table.ElementKind.{ElementKind}
use Rattle.usage_docs.specs.declared.schema_table.Key.{Key}
use Rattle.usage_docs.specs.SchemaTable.{Scope}
use Rattle.usage_docs.specs.UniqueKeys.{SiblingKey, sibling_key_of, sibling_key_at, RepeatsKey, RepeatsKeyAt}
use Rattle.usage_docs.specs.ElementKinds.{kind_of_child}
use Rattle.edit_rules.specs.NewElements.{IsDuplicate, ClashesInside, ClashesBeside}

module _ (row : ElementKind) (c : Scope) (child_elements : List Tree) (new : Tree) (gap : ℕ) (le : gap ≤ length child_elements) where
  abbrev with_new : List Tree
  with_new = insert child_elements gap new

  mark_before : (i : ℕ) → i < gap → sibling_key_at row c with_new i ≡ sibling_key_at row c child_elements i
  mark_before i lt = ap (option_and_then (sibling_key_of row c)) (get-insert_before child_elements gap new i le lt)

  mark_new : sibling_key_at row c with_new gap ≡ sibling_key_of row c new
  mark_new = ap (option_and_then (sibling_key_of row c)) (get-insert_at child_elements gap new le)

  mark_behind : (i : ℕ) → gap ≤ i → sibling_key_at row c with_new (suc i) ≡ sibling_key_at row c child_elements i
  mark_behind i from = ap (option_and_then (sibling_key_of row c)) (get-insert_behind child_elements gap new i le from)

  -- ---- an element in a child
  below : (i : ℕ) (child_element : Tree) (m : ℕ) (p : List ℕ) (key : Key) → slice_get with_new i ≡ Some child_element → RepeatsKeyAt row c with_new (i ∷ m ∷ p) key
      → (kind : ElementKind) × ((kind_of_child row c child_element ≡ Some kind) × RepeatsKeyAt kind (inside c child_element) (child_elements_of child_element) (m ∷ p) key)
  below i child_element m p key there h =
      let same : h.0 ≡ child_element = same_Some _ _ (sym h.1.1.0 ∙ there) in
      (h.1.0, (ap (kind_of_child row c) (sym same) ∙ h.1.1.1, subst (λ (x : Tree). RepeatsKeyAt h.1.0 (inside c x) (child_elements_of x) (m ∷ p) key) same h.1.1.2))

  inside_new : (p : List ℕ) (key : Key) → ClashesInside row c new p key → RepeatsKeyAt row c with_new (gap ∷ p) key
  inside_new [] key h = absurd h.1.1
  inside_new (m ∷ p) key h = (new, (h.0, (get-insert_at child_elements gap new le, h.1.0, h.1.1)))

  -- ---- two siblings
  twin_before : (i : ℕ) (key : Key) → i < gap → IsDuplicate (record { kind = row; scope = c; elements = child_elements }) new i key → RepeatsKey row c with_new gap key
  twin_before i key lt t = record {
    shared = t.shared;
    earlier = i;
    comes_first = lt;
    that = mark_before i lt ∙ t.that;
    this = mark_new ∙ t.of_new;
    by_key = t.by_key;
  }

  twin_behind : (i : ℕ) (key : Key) → gap ≤ i → IsDuplicate (record { kind = row; scope = c; elements = child_elements }) new i key → RepeatsKey row c with_new (suc i) key
  twin_behind i key from t = record {
    shared = t.shared;
    earlier = gap;
    comes_first = omega arith;
    that = mark_new ∙ t.of_new;
    this = mark_behind i from ∙ t.that;
    by_key = t.by_key;
  }

  pub beside_from : (r : List ℕ) (key : Key) → ClashesBeside (record { kind = row; scope = c; elements = child_elements }) new gap r key → RepeatsKeyAt row c with_new r key
  beside_from r key (inl (is, (i, (lt, t)))) = subst (λ (z : List ℕ). RepeatsKeyAt row c with_new z key) (sym is) (twin_before i key lt t)
  beside_from r key (inr (inl (p, (is, h)))) = subst (λ (z : List ℕ). RepeatsKeyAt row c with_new z key) (sym is) (inside_new p key h)
  beside_from r key (inr (inr (i, (is, (from, t))))) = subst (λ (z : List ℕ). RepeatsKeyAt row c with_new z key) (sym is) (twin_behind i key from t)

  module _ (unique : (r : List ℕ) (key : Key) → RepeatsKeyAt row c child_elements r key → ⊥) where
    -- the new element repeats the key of a sibling before it
    at_gap : (key : Key) → RepeatsKey row c with_new gap key → ClashesBeside (record { kind = row; scope = c; elements = child_elements }) new gap (gap ∷ []) key
    at_gap key h = inl (
      refl,
      (
        h.earlier,
        (
          h.comes_first,
          record {
            shared = h.shared;
            that = sym (mark_before h.earlier h.comes_first) ∙ h.that;
            of_new = sym mark_new ∙ h.this;
            by_key = h.by_key;
          },
        ),
      ),
    )

    before_gap : (i : ℕ) (key : Key) → i < gap → RepeatsKey row c with_new i key → ⊥
    before_gap i key lt h = unique (i ∷ []) key (record {
      shared = h.shared;
      earlier = h.earlier;
      comes_first = h.comes_first;
      that = sym (mark_before h.earlier (let e = h.comes_first in omega arith)) ∙ h.that;
      this = sym (mark_before i lt) ∙ h.this;
      by_key = h.by_key;
    })

    behind_gap : (i : ℕ) (key : Key) → gap ≤ i → (h : RepeatsKey row c with_new (suc i) key) → (h.earlier ≡ gap) ⊎ ((h.earlier < gap) ⊎ (gap < h.earlier)) → ClashesBeside (record { kind = row; scope = c; elements = child_elements }) new gap (suc i ∷ []) key
    behind_gap i key from h (inl is) = inr (inr (
      i,
      (
        refl,
        (
          from,
          record {
            shared = h.shared;
            that = sym (mark_behind i from) ∙ h.this;
            of_new = sym mark_new ∙ ap (sibling_key_at row c with_new) (sym is) ∙ h.that;
            by_key = h.by_key;
          },
        ),
      ),
    ))
    behind_gap i key from h (inr (inl lt)) = absurd (unique (i ∷ []) key (record {
      shared = h.shared;
      earlier = h.earlier;
      comes_first = omega arith;
      that = sym (mark_before h.earlier lt) ∙ h.that;
      this = sym (mark_behind i from) ∙ h.this;
      by_key = h.by_key;
    }))
    behind_gap i key from h (inr (inr lt)) = absurd (later h.earlier lt h.comes_first h.that)
      where
        later : (j : ℕ) → gap < j → j < suc i → sibling_key_at row c with_new j ≡ Some h.shared → ⊥
        later zero lt' less that = omega arith
        later (suc j) lt' less that = unique (i ∷ []) key (record {
          shared = h.shared;
          earlier = j;
          comes_first = omega arith;
          that = sym (mark_behind j (omega arith)) ∙ that;
          this = sym (mark_behind i from) ∙ h.this;
          by_key = h.by_key;
        })

    one : (i : ℕ) (key : Key) → (i ≡ gap) ⊎ ((i < gap) ⊎ (gap < i)) → RepeatsKey row c with_new i key → ClashesBeside (record { kind = row; scope = c; elements = child_elements }) new gap (i ∷ []) key
    one i key (inl is) h = subst (λ (z : ℕ). ClashesBeside (record { kind = row; scope = c; elements = child_elements }) new gap (z ∷ []) key) (sym is) (at_gap key (subst (λ (z : ℕ). RepeatsKey row c with_new z key) is h))
    one i key (inr (inl lt)) h = absurd (before_gap i key lt h)
    one zero key (inr (inr lt)) h = absurd (omega arith)
    one (suc i) key (inr (inr lt)) h = behind_gap i key (omega arith) h (cases_order h.earlier gap)

    deep_old : (i j : ℕ) (m : ℕ) (p : List ℕ) (key : Key) → slice_get with_new i ≡ slice_get child_elements j → RepeatsKeyAt row c with_new (i ∷ m ∷ p) key → ⊥
    deep_old i j m p key same h = unique (j ∷ m ∷ p) key (h.0, (h.1.0, (sym same ∙ h.1.1.0, h.1.1.1, h.1.1.2)))

    deep : (i m : ℕ) (p : List ℕ) (key : Key) → (i ≡ gap) ⊎ ((i < gap) ⊎ (gap < i)) → RepeatsKeyAt row c with_new (i ∷ m ∷ p) key → ClashesBeside (record { kind = row; scope = c; elements = child_elements }) new gap (i ∷ m ∷ p) key
    deep i m p key (inl is) h = inr (inl (m ∷ p, (ap (λ (z : ℕ). z ∷ m ∷ p) is, below i new m p key (ap (slice_get with_new) is ∙ get-insert_at child_elements gap new le) h)))
    deep i m p key (inr (inl lt)) h = absurd (deep_old i i m p key (get-insert_before child_elements gap new i le lt) h)
    deep zero m p key (inr (inr lt)) h = absurd (omega arith)
    deep (suc i) m p key (inr (inr lt)) h = absurd (deep_old (suc i) i m p key (get-insert_behind child_elements gap new i le (omega arith)) h)

    pub beside_to : (r : List ℕ) (key : Key) → RepeatsKeyAt row c with_new r key → ClashesBeside (record { kind = row; scope = c; elements = child_elements }) new gap r key
    beside_to [] key h = absurd h
    beside_to (i ∷ []) key h = one i key (cases_order i gap) h
    beside_to (i ∷ m ∷ p) key h = deep i m p key (cases_order i gap) h

    -- at most one sibling has the new element's mark
    pub one_twin : (i j : ℕ) (key key' : Key) → IsDuplicate (record { kind = row; scope = c; elements = child_elements }) new i key → IsDuplicate (record { kind = row; scope = c; elements = child_elements }) new j key' → i ≡ j
    one_twin i j key key' s t = by (cases_order i j)
      where
        same : s.shared ≡ t.shared
        same = same_Some _ _ (sym s.of_new ∙ t.of_new)

        by : (i ≡ j) ⊎ ((i < j) ⊎ (j < i)) → i ≡ j
        by (inl is) = is
        by (inr (inl lt)) = absurd (unique (j ∷ []) key' (record { shared = t.shared; earlier = i; comes_first = lt; that = s.that ∙ ap (λ (m : SiblingKey). Some m) same; this = t.that; by_key = t.by_key }))
        by (inr (inr lt)) = absurd (unique (i ∷ []) key (record { shared = s.shared; earlier = j; comes_first = lt; that = t.that ∙ ap (λ (m : SiblingKey). Some m) (sym same); this = s.that; by_key = s.by_key }))
