-- The first sibling that repeats an earlier one's key, found by the first child that has each
-- key.
use Rattle.std.proofs.Common.{◌≡◌, ℕ, ◌<◌, ◌≤◌, ◌+◌, List, length, take, None, Some, option_and_then, slice_get, get_or, inl, inr, refl, sym, ap, subst, ◌∙◌, arith, add-one}
use Rattle.std.proofs.lemmas.Bool.{cases_lt}
use Rattle.xml_tree.specs.Tree.{Tree}
use Rattle.xml_tree.specs.declared.tree.Node.{Node}
use Rattle.xml_tree.specs.declared.tree.Node.TheVariants.{Elem, Chars, Comment}
use Rattle.usage_docs.specs.declared.schema_table.ElementKind.{ElementKind}
use Rattle.usage_docs.specs.declared.schema_table.Key.{Key}
use Rattle.usage_docs.specs.UniqueKeys.{SiblingKey, RepeatsKey, sibling_key_at, sibling_key_of}
use Rattle.usage_docs.specs.KeyAttributes.{key_of}
use Rattle.usage_docs.specs.SchemaTable.{Scope, kind_of}
use Rattle.usage_docs.specs.readers.KeyRepeats.{IsFirstRepeat}
use Rattle.usage_docs.specs.readers.SiblingElements.{node_children, count_with_node}
use Rattle.xml_tree.specs.TreeScopes.{inside}
use Rattle.usage_docs.proofs.ClashLemmas.{Marked, kid_at, mark_parts, mark_within, no_key}

-- the child at a place has the mark of the element there
pub marked_here : (row : ElementKind) (c : Scope) (ns : List Node) (place : ℕ) (node : Node) (child_element : Tree) (child : ℕ) → place < length ns → node ≡ get_or ns place node → node ≡ Elem child_element
    → child ≡ length (node_children (take place ns)) → sibling_key_at row c (node_children ns) child ≡ sibling_key_of row c child_element
marked_here row c ns place node child_element child lt is elem counted = ap (option_and_then (sibling_key_of row c)) (ap (slice_get (node_children ns)) counted ∙ kid_at ns place node child_element lt is elem)

-- ---- counting children

pub one_elem : (n : Node) (child_element : Tree) (child new : ℕ) → n ≡ Elem child_element → new ≡ child + 1 → new ≡ count_with_node n child
one_elem n child_element child new is more = more ∙ (add-one child ∙ ap (λ x. count_with_node x child) (sym is))

pub one_other : (n : Node) (child new : ℕ) → ((e : Tree) → n ≡ Elem e → ⊥) → new ≡ child → new ≡ count_with_node n child
one_other (Elem e) child new not_one same = absurd (not_one e refl)
one_other (Chars t) child new not_one same = same
one_other (Comment x) child new not_one same = same

-- ---- a property that no child before this one has

pub none_next : (P : ℕ → Type 0) (child new : ℕ) → new ≡ child + 1 → ((j : ℕ) → j < child → P j → ⊥) → (P child → ⊥) → (j : ℕ) → j < new → P j → ⊥
none_next P child new more none here j less p =
    elim (cases_lt j child) [
      | inl before ↦ none j before p
      | inr reached ↦ (let e : j ≡ child = omega (arith, more, less, reached) in here (subst P e p))
    ]

pub none_same : (P : ℕ → Type 0) (child new : ℕ) → new ≡ child → ((j : ℕ) → j < child → P j → ⊥) → (j : ℕ) → j < new → P j → ⊥
none_same P child new same none j less p = none j (subst (λ n. j < n) same less) p

-- ---- repeats

module _ (row : ElementKind) (c : Scope) (ks : List Tree) (child : ℕ) where
  -- the first with the child's mark is before the child
  pub repeats : (m : SiblingKey) (r : ℕ) (key : Key) → sibling_key_at row c ks child ≡ Some m → r < child → (r < length ks → sibling_key_at row c ks r ≡ Some m) → key_of m.kind ≡ Some key → RepeatsKey row c ks child key
  repeats m r key this less that by_key =
      let within = mark_within row c m ks child this in
      record { shared = m; earlier = r; comes_first = less; that = that (omega (arith, less, within)); this = this; by_key = by_key }

  -- the child doesn't repeat a key
  pub repeats_none : (m : SiblingKey) (r : ℕ) (key : Key) → sibling_key_at row c ks child ≡ Some m → child ≤ r → ((j : ℕ) → j < r → sibling_key_at row c ks j ≡ Some m → ⊥) → RepeatsKey row c ks child key → ⊥
  repeats_none m r key this le none rep =
      let first = rep.comes_first in
      none rep.earlier (omega (arith, le, first)) (rep.that ∙ (sym rep.this ∙ this))

  -- the child has no mark
  pub unmarked : (key : Key) → sibling_key_at row c ks child ≡ None → RepeatsKey row c ks child key → ⊥
  unmarked key none rep = let no : None ≡ Some rep.shared = sym none ∙ rep.this in cc

  pub is_first : (key : Key) → RepeatsKey row c ks child key → ((k : ℕ) (key' : Key) → k < child → RepeatsKey row c ks k key' → ⊥) → IsFirstRepeat row c ks (Some (record { child = child; key = key }))
  is_first key rep none = (rep, λ i key' r. elim (cases_lt i child) [ inl before ↦ absurd (none i key' before r) | inr reached ↦ reached ])

pub none_is_first : (row : ElementKind) (c : Scope) (ks : List Tree) (child : ℕ) → child ≡ length ks → ((k : ℕ) (key : Key) → k < child → RepeatsKey row c ks k key → ⊥) → IsFirstRepeat row c ks None
none_is_first row c ks child is none i key rep = none i key (subst (λ n. i < n) (sym is) (mark_within row c rep.shared ks i rep.this)) rep

-- a mark's kind has a key
pub has_key : (row : ElementKind) (c : Scope) (e : Tree) (m : SiblingKey) → sibling_key_of row c e ≡ Some m → key_of m.kind ≡ None → ⊥
has_key row c e m is none =
    let parts : Marked (kind_of row (inside c e) e.name) e.attrs m = mark_parts row c e m is in
    let no : None ≡ Some m.value = sym (no_key m.kind e.attrs none) ∙ parts.by_value in
    cc
