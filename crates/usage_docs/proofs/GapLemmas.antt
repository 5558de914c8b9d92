-- A new element in a gap of a valid content.
use Rattle.std.proofs.Common.{◌≡◌, ◌↔◌, ◌≤◌, ℕ, zero, suc, List, [], ◌∷◌, ◌++◌, length, Some, slice_get, IsTrue, refl, ap, sym, ◌∙◌, subst, arith}
use Rattle.std.proofs.lemmas.Option.{same_Some}
use Rattle.std.specs.Option.{ForSome}
use Rattle.xml_tree.specs.Tree.{Content, last, more, comment_node, Tree, tree_of, child_elements}
use Rattle.xml_tree.specs.Edits.{put, change_element, put_in}
use Rattle.doc_names.specs.declared.usages.Usage.{Usage}
use Rattle.usage_docs.specs.declared.schema_table.ElementKind.{ElementKind}
use Rattle.usage_docs.specs.SchemaTable.{Scope, kind_of, root_kind}
use Rattle.xml_tree.specs.TreeScopes.{inside}
use Rattle.usage_docs.specs.Validity.{MatchesKind, AllMatchKinds, IsValidChild, IsValidDocument}
use Rattle.usage_docs.specs.readers.ContentParts.{part_of, may_follow}
use Rattle.usage_docs.specs.readers.ContentWalks.{WalksContent}
use Rattle.usage_docs.specs.InsertionPoints.{HasGap}
use Rattle.usage_docs.specs.readers.NeighbourParts.{part_of_child, part_before, part_after, FitsGapByPartsBelow}
use Rattle.usage_docs.proofs.BlankTexts.{passes_none}
use Rattle.usage_docs.proofs.ChildWalks.{walk_kept, kept_walked}

-- ---- in a content

module _ (row : ElementKind) (c : Scope) where
  rebase : (content : Content) (b b' : ℕ) → WalksContent row c b content → IsTrue (may_follow row b' (part_after row c zero content)) → WalksContent row c b' content
  rebase (last t) b b' v f = (v.0, f)
  rebase (more t n ds ats k rest) b b' v f = (v.0, f, v.2, v.3)
  rebase (comment_node t x rest) b b' v f = (v.0, rebase rest b b' v.1 f)

  first_follows : (content : Content) (b : ℕ) → WalksContent row c b content → IsTrue (may_follow row b (part_after row c zero content))
  first_follows (last t) b v = v.1
  first_follows (more t n ds ats k rest) b v = v.1
  first_follows (comment_node t x rest) b v = first_follows rest b v.1

  module _ (new : Tree) where
    pub put_from : (content : Content) (j b : ℕ) → j ≤ length (child_elements content) → WalksContent row c b content → IsValidChild row c new → IsTrue (may_follow row (part_before row c b j content) (part_of_child row c new)) → IsTrue (may_follow row (part_of_child row c new) (part_after row c j content)) → WalksContent row c b (put j new content)
    put_from (last t) zero b within v child_element low high = (passes_none row, low, child_element, rebase (last t) b (part_of_child row c new) v high)
    put_from (more t n ds ats k rest) zero b within v child_element low high = (passes_none row, low, child_element, rebase (more t n ds ats k rest) b (part_of_child row c new) v high)
    put_from (comment_node t x rest) zero b within v child_element low high = (passes_none row, low, child_element, rebase (comment_node t x rest) b (part_of_child row c new) v high)
    put_from (last t) (suc j) b within v child_element low high = absurd (omega arith)
    put_from (more t n ds ats k rest) (suc j) b within v child_element low high = (v.0, v.1, v.2, put_from rest j (part_of row (c ++ ds ∷ []) n) (omega arith) v.3 child_element low high)
    put_from (comment_node t x rest) (suc j) b within v child_element low high = (v.0, put_from rest (suc j) b within v.1 child_element low high)

    put_to : (content : Content) (j b : ℕ) → j ≤ length (child_elements content) → WalksContent row c b (put j new content) → IsValidChild row c new × IsTrue (may_follow row (part_before row c b j content) (part_of_child row c new)) × IsTrue (may_follow row (part_of_child row c new) (part_after row c j content))
    put_to (last t) zero b within v = (v.2, v.1, first_follows (last t) (part_of_child row c new) v.3)
    put_to (more t n ds ats k rest) zero b within v = (v.2, v.1, first_follows (more t n ds ats k rest) (part_of_child row c new) v.3)
    put_to (comment_node t x rest) zero b within v = (v.2, v.1, first_follows (comment_node t x rest) (part_of_child row c new) v.3)
    put_to (last t) (suc j) b within v = absurd (omega arith)
    put_to (more t n ds ats k rest) (suc j) b within v = put_to rest j (part_of row (c ++ ds ∷ []) n) (omega arith) v.3
    put_to (comment_node t x rest) (suc j) b within v = put_to rest (suc j) b within v.1

-- ---- in a child

-- a content with the content of its i-th element replaced
with_inside : ℕ → Content → Content → Content
with_inside i x (last t) = last t
with_inside zero x (more t n ds ats k rest) = more t n ds ats x rest
with_inside (suc i) x (more t n ds ats k rest) = more t n ds ats k (with_inside i x rest)
with_inside i x (comment_node t y rest) = comment_node t y (with_inside i x rest)

changed_inside : (content : Content) (i : ℕ) (f : Tree → Tree) (child_element : Tree) (x : Content) → slice_get (child_elements content) i ≡ Some child_element → f child_element ≡ tree_of child_element.name child_element.decls child_element.attrs x → change_element i f content ≡ with_inside i x content
unfolding with_inside
changed_inside (last t) i f child_element x there is = refl
changed_inside (more t n ds ats k rest) zero f child_element x there is =
    let e : tree_of n ds ats k ≡ child_element = same_Some _ _ there in
    let g : f (tree_of n ds ats k) ≡ tree_of n ds ats x = subst (λ (y : Tree). f y ≡ tree_of y.name y.decls y.attrs x) (sym e) is in
    ap (λ (y : Tree). more t y.name y.decls y.attrs y.content rest) g
changed_inside (more t n ds ats k rest) (suc i) f child_element x there is = ap (more t n ds ats k) (changed_inside rest i f child_element x there is)
changed_inside (comment_node t y rest) zero f child_element x there is = ap (comment_node t y) (changed_inside rest zero f child_element x there is)
changed_inside (comment_node t y rest) (suc i) f child_element x there is = ap (comment_node t y) (changed_inside rest (suc i) f child_element x there is)

-- what has to hold of a child with this content
abbrev pub KidInside : ElementKind → Scope → Tree → Content → Type 0
KidInside row c child_element x = ForSome (kind_of row (inside c child_element) child_element.name) (λ kind. MatchesKind kind (inside c child_element) child_element.attrs x × AllMatchKinds kind (inside c child_element) x)

pub kid_valid : (row : ElementKind) (c : Scope) (content : Content) (i : ℕ) (child_element : Tree) (b : ℕ) → slice_get (child_elements content) i ≡ Some child_element → WalksContent row c b content → KidInside row c child_element child_element.content
kid_valid row c (last t) i child_element b there v = cc
kid_valid row c (more t n ds ats k rest) zero child_element b there v = subst (λ (x : Tree). KidInside row c x x.content) (same_Some _ _ there) v.2
kid_valid row c (more t n ds ats k rest) (suc i) child_element b there v = kid_valid row c rest i child_element (part_of row (c ++ ds ∷ []) n) there v.3
kid_valid row c (comment_node t x rest) zero child_element b there v = kid_valid row c rest zero child_element b there v.1
kid_valid row c (comment_node t x rest) (suc i) child_element b there v = kid_valid row c rest (suc i) child_element b there v.1

set_from : (row : ElementKind) (c : Scope) (content : Content) (i : ℕ) (child_element : Tree) (x : Content) (b : ℕ) → slice_get (child_elements content) i ≡ Some child_element → WalksContent row c b content → KidInside row c child_element x → WalksContent row c b (with_inside i x content)
unfolding with_inside
set_from row c (last t) i child_element x b there v k = v
set_from row c (more t n ds ats k rest) zero child_element x b there v w = (v.0, v.1, subst (λ (y : Tree). KidInside row c y x) (sym (same_Some _ _ there)) w, v.3)
set_from row c (more t n ds ats k rest) (suc i) child_element x b there v w = (v.0, v.1, v.2, set_from row c rest i child_element x (part_of row (c ++ ds ∷ []) n) there v.3 w)
set_from row c (comment_node t y rest) zero child_element x b there v w = (v.0, set_from row c rest zero child_element x b there v.1 w)
set_from row c (comment_node t y rest) (suc i) child_element x b there v w = (v.0, set_from row c rest (suc i) child_element x b there v.1 w)

set_to : (row : ElementKind) (c : Scope) (content : Content) (i : ℕ) (child_element : Tree) (x : Content) (b : ℕ) → slice_get (child_elements content) i ≡ Some child_element → WalksContent row c b (with_inside i x content) → KidInside row c child_element x
unfolding with_inside
set_to row c (last t) i child_element x b there v = cc
set_to row c (more t n ds ats k rest) zero child_element x b there v = subst (λ (y : Tree). KidInside row c y x) (same_Some _ _ there) v.2
set_to row c (more t n ds ats k rest) (suc i) child_element x b there v = set_to row c rest i child_element x (part_of row (c ++ ds ∷ []) n) there v.3
set_to row c (comment_node t y rest) zero child_element x b there v = set_to row c rest zero child_element x b there v.1
set_to row c (comment_node t y rest) (suc i) child_element x b there v = set_to row c rest (suc i) child_element x b there v.1

-- ---- at a path

keeps : (q : List ℕ) (j : ℕ) (new e : Tree) → put_in q j new e ≡ tree_of e.name e.decls e.attrs (put_in q j new e).content
keeps [] j new e = refl
keeps (n ∷ q) j new e = refl

pub fits_from : (j : ℕ) (new : Tree) (q : List ℕ) (row : ElementKind) (c : Scope) (e : Tree) → HasGap e q j → WalksContent row c 0 e.content → FitsGapByPartsBelow row c e q new j → WalksContent row c 0 (put_in q j new e).content
fits_from j new [] row c e there v f = put_from row c new e.content j 0 there v f.0 f.1 f.2
fits_from j new (n ∷ q) row c e there v f =
    let child_element = f.0 in
    let at = f.1.0 in
    let below = subst (λ (x : Tree). HasGap x q j) (same_Some _ _ (sym there.1.0 ∙ at)) there.1.1 in
    let old = kid_valid row c e.content n child_element 0 at v in
    subst (λ x. WalksContent row c 0 x) (sym (changed_inside e.content n (put_in q j new) child_element (put_in q j new child_element).content at (keeps q j new child_element)))
    (set_from row c e.content n child_element (put_in q j new child_element).content 0 at v (λ kind is.
    kept_walked kind (inside c child_element) child_element.attrs (put_in q j new child_element).content (old kind is).0.attributes
    (fits_from j new q kind (inside c child_element) child_element below (walk_kept kind (inside c child_element) child_element.attrs child_element.content (old kind is)) (f.1.1 kind is))))

pub fits_to : (j : ℕ) (new : Tree) (q : List ℕ) (row : ElementKind) (c : Scope) (e : Tree) → HasGap e q j → WalksContent row c 0 (put_in q j new e).content → FitsGapByPartsBelow row c e q new j
fits_to j new [] row c e there v = put_to row c new e.content j 0 there v
fits_to j new (n ∷ q) row c e there v =
    let child_element = there.0 in
    let at = there.1.0 in
    let w = set_to row c e.content n child_element (put_in q j new child_element).content 0 at (subst (λ x. WalksContent row c 0 x) (changed_inside e.content n (put_in q j new) child_element (put_in q j new child_element).content at (keeps q j new child_element)) v) in
    (child_element, (at, λ kind is. fits_to j new q kind (inside c child_element) child_element there.1.1 (walk_kept kind (inside c child_element) child_element.attrs (put_in q j new child_element).content (w kind is))))

-- only the content of a document changes
root_from : (u : Usage) (t s : Tree) → s ≡ tree_of t.name t.decls t.attrs s.content → IsValidDocument u t → WalksContent (root_kind u) (t.decls ∷ []) 0 s.content → IsValidDocument u s
root_from u t s is k w = subst (λ (x : Tree). IsValidDocument u x) (sym is) (record { root = k.root; valid = kept_walked (root_kind u) (t.decls ∷ []) t.attrs s.content k.valid.0.attributes w })

root_to : (u : Usage) (t s : Tree) → s ≡ tree_of t.name t.decls t.attrs s.content → IsValidDocument u s → WalksContent (root_kind u) (t.decls ∷ []) 0 s.content
root_to u t s is k = let w = subst (λ (x : Tree). IsValidDocument u x) is k in walk_kept (root_kind u) (t.decls ∷ []) t.attrs s.content w.valid

pub insertion_by_parts : (u : Usage) (t new : Tree) (q : List ℕ) (j : ℕ) → HasGap t q j → IsValidDocument u t → IsValidDocument u (put_in q j new t) ↔ FitsGapByPartsBelow (root_kind u) (t.decls ∷ []) t q new j
insertion_by_parts u t new q j there k =
    let old = walk_kept (root_kind u) (t.decls ∷ []) t.attrs t.content k.valid in (
      λ s. fits_to j new q (root_kind u) (t.decls ∷ []) t there (root_to u t (put_in q j new t) (keeps q j new t) s),
      λ f. root_from u t (put_in q j new t) (keeps q j new t) k (fits_from j new q (root_kind u) (t.decls ∷ []) t there old f),
    )
