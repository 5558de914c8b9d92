-- A valid document with a new element in a gap is valid exactly when the element fits between its
-- two neighbours.
use Rattle.std.proofs.Common.{◌≡◌, ◌↔◌, ◌≤◌, ℕ, List, [], ◌∷◌, ◌++◌, length, Option, Some, option_and_then, slice_get, refl, sym, ap, ◌∙◌, subst, append-nil}
use Rattle.std.proofs.lemmas.Option.{same_Some}
use Rattle.std.specs.Option.{ForSome}
use Rattle.xml_tree.specs.Tree.{Tree, child_elements_of, at}
use Rattle.xml_tree.specs.Edits.{put_in}
use Rattle.xml_tree.specs.TreeScopes.{scope_at, scope_below, inside}
use Rattle.xml_tree.proofs.TreeScopeLemmas.{scope_at-below}
use Rattle.doc_names.specs.declared.usages.Usage.{Usage}
use Rattle.usage_docs.specs.declared.schema_table.ElementKind.{ElementKind}
use Rattle.usage_docs.specs.SchemaTable.{Scope, root_kind}
use Rattle.usage_docs.specs.Validity.{IsValidDocument}
use Rattle.usage_docs.specs.readers.NeighbourParts.{FitsGapByParts, FitsGapByPartsBelow}
use Rattle.usage_docs.specs.InsertionPoints.{HasGap}
use Rattle.usage_docs.proofs.GapLemmas.{insertion_by_parts}
use Rattle.usage_docs.specs.ElementKinds.{kind_of_child, kind_below, kind_at}
use Rattle.edit_rules.proofs.Options.{came_from, through_kid, scope_through}

-- the kind one child further down
pub kind_through : (row : ElementKind) (c : Scope) (n : ℕ) (q : List ℕ) (e child_element : Tree) → slice_get (child_elements_of e) n ≡ Some child_element → kind_below row c e (n ∷ q) ≡ option_and_then (λ kind. kind_below kind (inside c child_element) child_element q) (kind_of_child row c child_element)
kind_through row c n q e child_element there = ap (option_and_then (λ k. option_and_then (λ kind. kind_below kind (inside c k) k q) (kind_of_child row c k))) there

-- the gap is there
pub gap_there : (q : List ℕ) (e parent : Tree) (j : ℕ) → at q e ≡ Some parent → j ≤ length (child_elements_of parent) → HasGap e q j
gap_there [] e parent j there le = subst (λ (x : Tree). j ≤ length (child_elements_of x)) (sym (same_Some e parent there)) le
gap_there (n ∷ q) e parent j there le =
    let k = through_kid n q e parent there in
    (k.0, (k.1.0, gap_there q k.0 parent j k.1.1 le))

-- what has to hold of the new element there, in the scope and by the kind of its parent
abbrev FitsThere : Option ElementKind → Scope → Tree → Tree → ℕ → Type 0
FitsThere o c parent new j = ForSome o (λ kind. FitsGapByParts kind c parent.content new j)

fits_to : (q : List ℕ) (row : ElementKind) (c : Scope) (e parent new : Tree) (j : ℕ) → at q e ≡ Some parent → FitsGapByPartsBelow row c e q new j → FitsThere (kind_below row c e q) (c ++ scope_below q e) parent new j
fits_to [] row c e parent new j there f = λ kind is.
    subst (λ (x : Tree). FitsGapByParts kind (c ++ []) x.content new j) (same_Some e parent there)
    (subst (λ (d : Scope). FitsGapByParts kind d e.content new j) (sym (append-nil c))
    (subst (λ (k : ElementKind). FitsGapByParts k c e.content new j) (same_Some row kind is) f))
fits_to (n ∷ q) row c e parent new j there f = λ kind is.
    let k = through_kid n q e parent there in
    let child_element = k.0 in
    let same : f.0 ≡ child_element = same_Some _ _ (sym f.1.0 ∙ k.1.0) in
    let below = subst (λ (x : Tree). ForSome (kind_of_child row c x) (λ kd. FitsGapByPartsBelow kd (inside c x) x q new j)) same f.1.1 in
    let s = came_from (λ kd. kind_below kd (inside c child_element) child_element q) (kind_of_child row c child_element) kind (sym (kind_through row c n q e child_element k.1.0) ∙ is) in
    subst (λ (d : Scope). FitsGapByParts kind d parent.content new j) (sym (scope_through c n q e child_element k.1.0))
    (fits_to q s.0 (inside c child_element) child_element parent new j k.1.1 (below s.0 s.1.0) kind s.1.1)

fits_from : (q : List ℕ) (row : ElementKind) (c : Scope) (e parent new : Tree) (j : ℕ) → at q e ≡ Some parent → FitsThere (kind_below row c e q) (c ++ scope_below q e) parent new j → FitsGapByPartsBelow row c e q new j
fits_from [] row c e parent new j there f =
    subst (λ (x : Tree). FitsGapByParts row c x.content new j) (sym (same_Some e parent there))
    (subst (λ (d : Scope). FitsGapByParts row d parent.content new j) (append-nil c) (f row refl))
fits_from (n ∷ q) row c e parent new j there f =
    let k = through_kid n q e parent there in
    let child_element = k.0 in (
      child_element,
      (
        k.1.0,
        λ kd is. fits_from q kd (inside c child_element) child_element parent new j k.1.1 (λ kind at_kind.
            subst (λ (d : Scope). FitsGapByParts kind d parent.content new j) (scope_through c n q e child_element k.1.0)
            (f kind (kind_through row c n q e child_element k.1.0 ∙ ap (option_and_then (λ x. kind_below x (inside c child_element) child_element q)) is ∙ at_kind))),
      ),
    )

-- where the parent is foreign, or in a foreign element, nothing has to hold
pub valid_beside : (u : Usage) (t parent new : Tree) (q : List ℕ) (j : ℕ) → at q t ≡ Some parent → j ≤ length (child_elements_of parent) → IsValidDocument u t
    → IsValidDocument u (put_in q j new t) ↔ ForSome (kind_at u t q) (λ kind. FitsGapByParts kind (scope_at q t) parent.content new j)
valid_beside u t parent new q j there le valid =
    let i = insertion_by_parts u t new q j (gap_there q t parent j there le) valid in
    let scope : (t.decls ∷ []) ++ scope_below q t ≡ scope_at q t = sym (scope_at-below q t) in (
      λ s. subst (λ (d : Scope). FitsThere (kind_at u t q) d parent new j) scope (fits_to q (root_kind u) (t.decls ∷ []) t parent new j there (i.0 s)),
      λ f. i.1 (fits_from q (root_kind u) (t.decls ∷ []) t parent new j there (subst (λ (d : Scope). FitsThere (kind_at u t q) d parent new j) (sym scope) f)),
    )
