-- In a valid content a new element may come between its neighbours by the content model exactly
-- when it may by their parts.
use Rattle.std.proofs.Common.{◌≡◌, ◌↔◌, ◌≤◌, ◌<◌, ℕ, zero, suc, List, [], ◌∷◌, ◌++◌, length, Option, None, Some, slice_get, IsTrue, refl, ap, sym, ◌∙◌, subst, arith}
use Rattle.std.proofs.lemmas.Option.{same_Some}
use Rattle.xml_tree.specs.Tree.{Content, last, more, comment_node, Tree, child_elements}
use Rattle.xml_tree.specs.Edits.{put, put_in}
use Rattle.doc_names.specs.declared.usages.Usage.{Usage}
use Rattle.usage_docs.specs.declared.schema_table.ElementKind.{ElementKind}
use Rattle.usage_docs.specs.SchemaTable.{Scope, Child, child_class_of, root_kind, items_in, content_model_of, MatchesModel as Matches}
use Rattle.xml_tree.specs.TreeScopes.{inside}
use Rattle.usage_docs.specs.Validity.{IsValidDocument, children_of}
use Rattle.usage_docs.specs.InsertionPoints.{last_child, child_before, child_after, FitsGap, FitsGapBelow, HasGap}
use Rattle.usage_docs.specs.readers.NeighbourParts.{part_before, part_after, FitsGapByParts, FitsGapByPartsBelow}
use Rattle.usage_docs.specs.readers.ContentParts.{part_of_class, part_of, may_follow, end_part}
use Rattle.usage_docs.specs.readers.ContentWalks.{WalksContent}
use Rattle.usage_docs.proofs.ContentMatches.{Chain, matched}
use Rattle.usage_docs.proofs.ChildWalks.{followed, walk_kept}
use Rattle.usage_docs.proofs.GapLemmas.{insertion_by_parts, kid_valid, put_from}

abbrev part_or : ElementKind → ℕ → Option Child → ℕ
part_or row n None = n
part_or row n (Some x) = part_of_class row x

-- ---- some children in order

module _ (row : ElementKind) where
  found_part : (xs : List Child) (i : ℕ) → i < length xs → (n m : ℕ) → part_or row n (slice_get xs i) ≡ part_or row m (slice_get xs i)
  found_part [] i l n m = absurd (omega (arith, l))
  found_part (x ∷ xs) zero l n m = refl
  found_part (x ∷ xs) (suc i) l n m = found_part xs i (omega (arith, l)) n m

  last_part : (x : Child) (xs : List Child) (n m : ℕ) → part_or row n (last_child (x ∷ xs)) ≡ part_or row m (last_child (x ∷ xs))
  last_part x [] n m = refl
  last_part x (y ∷ xs) n m = last_part y xs n m

  abbrev Between : ℕ → List Child → Child → List Child → Type 0
  Between b front x back = IsTrue (may_follow row (part_or row b (last_child front)) (part_of_class row x)) × IsTrue (may_follow row (part_of_class row x) (part_or row end_part (slice_get back 0)))

  chain_between : (front : List Child) (x : Child) (back : List Child) (b : ℕ) → Chain row b (front ++ x ∷ back) → Between b front x back
  chain_between [] x [] b c = (c.0, c.1)
  chain_between [] x (y ∷ ys) b c = (c.0, c.1.0)
  chain_between (y ∷ []) x back b c = chain_between [] x back (part_of_class row y) c.1
  chain_between (y ∷ z ∷ zs) x back b c =
      let r = chain_between (z ∷ zs) x back (part_of_class row y) c.1 in
      (subst (λ (n : ℕ). IsTrue (may_follow row n (part_of_class row x))) (last_part z zs (part_of_class row y) b) r.0, r.1)

-- ---- the children of a content

child_at : (xs : List Child) (i : ℕ) → i < length xs → slice_get xs i ≡ None → ⊥
child_at [] i l e = absurd (omega (arith, l))
child_at (x ∷ xs) zero l e = cc
child_at (x ∷ xs) (suc i) l e = child_at xs i (omega (arith, l)) e

last_none : (xs : List Child) → last_child xs ≡ None → xs ≡ []
last_none [] e = refl
last_none (x ∷ []) e = cc
last_none (x ∷ y ∷ xs) e = (let h : y ∷ xs ≡ [] = last_none (y ∷ xs) e in cc)

module _ (row : ElementKind) (c : Scope) where
  count : (content : Content) → length (children_of row c content) ≡ length (child_elements content)
  count (last t) = refl
  count (more t n ds ats k rest) = ap (λ (n : ℕ). suc n) (count rest)
  count (comment_node t x rest) = count rest

  before_is : (content : Content) (j b : ℕ) → j ≤ length (child_elements content) → part_before row c b j content ≡ part_or row b (child_before j (children_of row c content))
  unfolding part_of
  before_is (last t) zero b l = refl
  before_is (more t n ds ats k rest) zero b l = refl
  before_is (comment_node t x rest) zero b l = refl
  before_is (last t) (suc j) b l = absurd (omega arith)
  before_is (more t n ds ats k rest) (suc zero) b l = before_is rest zero (part_of row (c ++ ds ∷ []) n) (omega arith)
  before_is (more t n ds ats k rest) (suc (suc j)) b l =
      before_is rest (suc j) (part_of row (c ++ ds ∷ []) n) (omega arith)
      ∙ found_part row (children_of row c rest) j (omega (arith, count rest)) (part_of row (c ++ ds ∷ []) n) b
  before_is (comment_node t x rest) (suc j) b l = before_is rest (suc j) b l

  after_is : (content : Content) (j : ℕ) → part_after row c j content ≡ part_or row end_part (child_after j (children_of row c content))
  unfolding part_of
  after_is (last t) j = refl
  after_is (more t n ds ats k rest) zero = refl
  after_is (more t n ds ats k rest) (suc j) = after_is rest j
  after_is (comment_node t x rest) j = after_is rest j

  module _ (new : Tree) where
    abbrev it : Child
    it = child_class_of row (inside c new) new.name

    -- the children including the new one
    record Parted (content : Content) (j : ℕ) : Type 0 where
      front : List Child
      back : List Child
      ends : last_child front ≡ child_before j (children_of row c content)
      begins : slice_get back 0 ≡ child_after j (children_of row c content)
      all : children_of row c (put j new content) ≡ front ++ it ∷ back

    first_behind : (y : Child) (front ys : List Child) (j : ℕ) → j ≤ length ys → last_child front ≡ child_before j ys → last_child (y ∷ front) ≡ child_before (suc j) (y ∷ ys)
    first_behind y [] ys zero l e = refl
    first_behind y (z ∷ zs) ys zero l e = (let h : z ∷ zs ≡ [] = last_none (z ∷ zs) e in cc)
    first_behind y [] ys (suc j) l e = absurd (child_at ys j (omega (arith, l)) (sym e))
    first_behind y (z ∷ zs) ys (suc j) l e = e

    parted : (content : Content) (j : ℕ) → j ≤ length (child_elements content) → Parted content j
    parted (last t) zero l = record { front = []; back = []; ends = refl; begins = refl; all = refl }
    parted (more t n ds ats k rest) zero l = record { front = []; back = children_of row c (more t n ds ats k rest); ends = refl; begins = refl; all = refl }
    parted (comment_node t x rest) zero l = record { front = []; back = children_of row c rest; ends = refl; begins = refl; all = refl }
    parted (last t) (suc j) l = absurd (omega arith)
    parted (more t n ds ats k rest) (suc j) l =
        let r = parted rest j (omega arith) in
        let y : Child = child_class_of row (c ++ ds ∷ []) n in
        record {
          front = y ∷ r.front;
          back = r.back;
          ends = first_behind y r.front (children_of row c rest) j (omega (arith, count rest)) r.ends;
          begins = r.begins;
          all = ap (λ (xs : List Child). y ∷ xs) r.all;
        }
    parted (comment_node t x rest) (suc j) l =
        let r = parted rest (suc j) l in
        record { front = r.front; back = r.back; ends = r.ends; begins = r.begins; all = r.all }

    gap_exact : (content : Content) (j : ℕ) → j ≤ length (child_elements content) → WalksContent row c 0 content → FitsGap row c content new j ↔ FitsGapByParts row c content new j
    unfolding part_of
    gap_exact content j l w = (
      λ f.
          (let m = f.1 in
          let b = chain_between row m.front it m.back 0 ((matched row (m.front ++ it ∷ m.back)).1 m.fits) in (
            f.0,
            subst (λ (n : ℕ). IsTrue (may_follow row n (part_of_class row it))) (ap (part_or row zero) m.ends ∙ sym (before_is content j 0 l)) b.0,
            subst (λ (n : ℕ). IsTrue (may_follow row (part_of_class row it) n)) (ap (part_or row end_part) m.begins ∙ sym (after_is content j)) b.1,
          )),
      λ f.
          (let r = parted content j l in
          let chain = (followed row c (put j new content) 0 (put_from row c new content j 0 l w f.0 f.1 f.2)).1 in (
            f.0,
            record {
              front = r.front;
              back = r.back;
              ends = r.ends;
              begins = r.begins;
              fits = subst (λ (xs : List Child). Matches (items_in (content_model_of row)) xs) r.all ((matched row (children_of row c (put j new content))).0 chain);
            },
          )),
    )

-- ---- at a path

below_to : (j : ℕ) (new : Tree) (q : List ℕ) (row : ElementKind) (c : Scope) (e : Tree) → HasGap e q j → WalksContent row c 0 e.content → FitsGapBelow row c e q new j → FitsGapByPartsBelow row c e q new j
below_to j new [] row c e there w f = (gap_exact row c new e.content j there w).0 f
below_to j new (n ∷ q) row c e there w (child_element, (at, f)) =
    let below = subst (λ (x : Tree). HasGap x q j) (same_Some _ _ (sym there.1.0 ∙ at)) there.1.1 in
    let old = kid_valid row c e.content n child_element 0 at w in
    (child_element, (at, λ kind is. below_to j new q kind (inside c child_element) child_element below (walk_kept kind (inside c child_element) child_element.attrs child_element.content (old kind is)) (f kind is)))

below_from : (j : ℕ) (new : Tree) (q : List ℕ) (row : ElementKind) (c : Scope) (e : Tree) → HasGap e q j → WalksContent row c 0 e.content → FitsGapByPartsBelow row c e q new j → FitsGapBelow row c e q new j
below_from j new [] row c e there w f = (gap_exact row c new e.content j there w).1 f
below_from j new (n ∷ q) row c e there w (child_element, (at, f)) =
    let below = subst (λ (x : Tree). HasGap x q j) (same_Some _ _ (sym there.1.0 ∙ at)) there.1.1 in
    let old = kid_valid row c e.content n child_element 0 at w in
    (child_element, (at, λ kind is. below_from j new q kind (inside c child_element) child_element below (walk_kept kind (inside c child_element) child_element.attrs child_element.content (old kind is)) (f kind is)))

pub insertion : (u : Usage) (t new : Tree) (q : List ℕ) (j : ℕ) → HasGap t q j → IsValidDocument u t → IsValidDocument u (put_in q j new t) ↔ FitsGapBelow (root_kind u) (t.decls ∷ []) t q new j
insertion u t new q j there k =
    let w = walk_kept (root_kind u) (t.decls ∷ []) t.attrs t.content k.valid in
    let by_parts = insertion_by_parts u t new q j there k in (
      λ s. below_from j new q (root_kind u) (t.decls ∷ []) t there w (by_parts.0 s),
      λ f. by_parts.1 (below_to j new q (root_kind u) (t.decls ∷ []) t there w f),
    )
