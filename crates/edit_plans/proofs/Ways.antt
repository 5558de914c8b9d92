-- The path down to a parent, one child at a time.
use Rattle.std.proofs.Common.{◌≡◌, ◌-◌, ◌<◌, ◌≤◌, take, drop, get_or, arith, ℕ, List, [], ◌∷◌, ◌++◌, length, Option, Some, None, IsSome, option_and_then, slice_get, refl, sym, ap, ◌∙◌, subst, append-nil}
use Rattle.std.proofs.lemmas.Option.{same_Some}
use Rattle.xml_tree.specs.Tree.{Tree, at, child_elements_of}
use Rattle.xml_tree.specs.TreeScopes.{scope_at, scope_below, inside}
use Rattle.xml_tree.proofs.TreeScopeLemmas.{scope_at-below}
use Rattle.doc_names.specs.declared.usages.Usage.{Usage}
use Rattle.usage_docs.specs.declared.schema_table.ElementKind.{ElementKind}
use Rattle.usage_docs.specs.SchemaTable.{Scope, root_kind}
use Rattle.usage_docs.specs.ElementKinds.{kind_at, kind_of_child}
use Rattle.usage_docs.specs.inner.KindsBelow.{kind_below_if_known}
use Rattle.edit_rules.proofs.Options.{scope_through}
use Rattle.edit_rules.proofs.ValidBeside.{kind_through}
use Rattle.edit_plans.specs.inner.ParentPaths.{HoldsAtParent}

-- ---- a document

module _ (u : Usage) (t : Tree) (q : List ℕ) where
  -- a property of the parent, in the scope inside it and by its element kind, stated at the root
  pub tell_at_root : (P : Option ElementKind → Scope → Tree → Type 0) → ((parent : Tree) → at q t ≡ Some parent → P (kind_at u t q) (scope_at q t) parent) → HoldsAtParent P (Some (root_kind u)) (t.decls ∷ []) t q
  tell_at_root P h parent there = subst (λ (d : Scope). P (kind_at u t q) d parent) (scope_at-below q t) (h parent there)

  pub told_at_root : (P : Option ElementKind → Scope → Tree → Type 0) → HoldsAtParent P (Some (root_kind u)) (t.decls ∷ []) t q → (parent : Tree) → at q t ≡ Some parent → P (kind_at u t q) (scope_at q t) parent
  told_at_root P h parent there = subst (λ (d : Scope). P (kind_at u t q) d parent) (sym (scope_at-below q t)) (h parent there)

-- ---- one child at a time

row_here : (row : Option ElementKind) (c : Scope) (e : Tree) → kind_below_if_known row c e [] ≡ row
row_here None c e = refl
row_here (Some kind) c e = refl

row_through : (row : Option ElementKind) (c : Scope) (n : ℕ) (way : List ℕ) (e child_element : Tree) → slice_get (child_elements_of e) n ≡ Some child_element → kind_below_if_known row c e (n ∷ way) ≡ kind_below_if_known (option_and_then (λ kind. kind_of_child kind c child_element) row) (inside c child_element) child_element way
row_through None c n way e child_element there = refl
row_through (Some kind) c n way e child_element there = kind_through kind c n way e child_element there

module _ (P : Option ElementKind → Scope → Tree → Type 0) (row : Option ElementKind) (c : Scope) where
  -- at its end
  pub below_here : (e : Tree) → P row c e → HoldsAtParent P row c e []
  below_here e h parent there =
      subst (λ (x : Tree). P (kind_below_if_known row c e []) (c ++ []) x) (same_Some e parent there)
      (subst (λ (d : Scope). P (kind_below_if_known row c e []) d e) (sym (append-nil c))
      (subst (λ (o : Option ElementKind). P o c e) (sym (row_here row c e)) h))

  pub here_below : (e : Tree) → HoldsAtParent P row c e [] → P row c e
  here_below e h =
      subst (λ (o : Option ElementKind). P o c e) (row_here row c e)
      (subst (λ (d : Scope). P (kind_below_if_known row c e []) d e) (append-nil c) (h e refl))

  -- one child further
  module _ (n : ℕ) (way : List ℕ) (e child_element : Tree) (there : slice_get (child_elements_of e) n ≡ Some child_element) where
    abbrev next_row : Option ElementKind
    next_row = option_and_then (λ kind. kind_of_child kind c child_element) row

    pub below_next : HoldsAtParent P next_row (inside c child_element) child_element way → HoldsAtParent P row c e (n ∷ way)
    below_next h parent at_parent =
        subst (λ (d : Scope). P (kind_below_if_known row c e (n ∷ way)) d parent) (sym (scope_through c n way e child_element there))
        (subst (λ (o : Option ElementKind). P o (inside c child_element ++ scope_below way child_element) parent) (sym (row_through row c n way e child_element there))
        (h parent (sym (ap (option_and_then (at way)) there) ∙ at_parent)))

    pub next_below : HoldsAtParent P row c e (n ∷ way) → HoldsAtParent P next_row (inside c child_element) child_element way
    next_below h parent at_parent =
        subst (λ (o : Option ElementKind). P o (inside c child_element ++ scope_below way child_element) parent) (row_through row c n way e child_element there)
        (subst (λ (d : Scope). P (kind_below_if_known row c e (n ∷ way)) d parent) (scope_through c n way e child_element there)
        (h parent (ap (option_and_then (at way)) there ∙ at_parent)))

pub there_next : (n : ℕ) (way : List ℕ) (e child_element : Tree) → slice_get (child_elements_of e) n ≡ Some child_element → IsSome (at (n ∷ way) e) → IsSome (at way child_element)
there_next n way e child_element there h = subst (λ (o : Option Tree). IsSome (option_and_then (at way) o)) there h

-- a path that isn't at its end is a number and the rest
all_taken : (xs : List ℕ) (n : ℕ) → n ≡ length xs → take n xs ≡ xs
all_taken [] n e = rw e refl
all_taken (x ∷ xs) n e = rw e (ap (λ l. x ∷ l) (all_taken xs (length xs) refl))

pub way_parts : (w : List ℕ) → 1 ≤ length w → w ≡ get_or w 0 0 ∷ take (length w - 1) (drop 1 w)
way_parts [] le = absurd (omega arith)
way_parts (n ∷ w) le = ap (λ (l : List ℕ). n ∷ l) (sym (all_taken w (length (n ∷ w) - 1) (omega arith)))

pub empty_way : (w : List ℕ) → length w < 1 → w ≡ []
empty_way [] lt = refl
empty_way (n ∷ w) lt = absurd (omega arith)
