-- Elements put one after another are listed.
use Rattle.std.proofs.Common.{◌≡◌, ℕ, ◌+◌, ◌-◌, ◌<◌, suc, List, [], ◌∷◌, ◌++◌, map, length, take, get_or, slice_get, Some, refl, subst, sym, ap, ◌∙◌, append_assoc, append-nil, arith}
use Rattle.std.proofs.lemmas.List.{map-append, take_more}
use Rattle.xml_tree.specs.Edits.{with_elem}
use Rattle.xml_tree.specs.Tree.{Content, Tree, last, more_of, tree_of, content_of_children as listed}
use Rattle.xml_names.specs.declared.names.Name.{Name}
use Rattle.xml_names.specs.declared.names.Decl.{Decl}
use Rattle.xml_names.specs.declared.names.Attr.{Attr}
use Rattle.edit_ops.specs.Notes.{Note, tag_after}
use Rattle.patch_rules.specs.inner.AppendedElements.{with_elements}

pub all-append : (xs ys : List Tree) (t : Tree) → with_elements (xs ++ ys) t ≡ with_elements ys (with_elements xs t)
all-append [] ys t = refl
all-append (x ∷ xs) ys t = all-append xs ys (record t { content = with_elem x t.content })

one-more : (e : Tree) (xs : List Tree) → with_elem e (listed xs) ≡ listed (xs ++ e ∷ [])
one-more e [] = refl
one-more e (x ∷ xs) = ap (λ (k : Content). more_of [] x k) (one-more e xs)

module _ (n : Name) (ds : List Decl) (ats : List Attr) where
  behind : (xs es : List Tree) → with_elements es (tree_of n ds ats (listed xs)) ≡ tree_of n ds ats (listed (xs ++ es))
  behind xs [] = ap (λ (l : List Tree). tree_of n ds ats (listed l)) (sym (append-nil xs))
  behind xs (e ∷ es) =
      ap (λ k. with_elements es (tree_of n ds ats k)) (one-more e xs) ∙ behind (xs ++ e ∷ []) es
      ∙ ap (λ (l : List Tree). tree_of n ds ats (listed l)) (append_assoc xs (e ∷ []) es)

  pub all-listed : (es : List Tree) → with_elements es (tree_of n ds ats (last [])) ≡ tree_of n ds ats (listed es)
  all-listed es = behind [] es

-- ---- lists of change records

-- one element for each change record, with the elements before the i-th added
module _ (tell : Note → Tree) where
  pub next-put : (ns : List Note) (i : ℕ) (d : Note) (t old new : Tree) → i < length ns → d ≡ get_or ns i d → old ≡ with_elements (map tell (take i ns)) t
      → new ≡ record old { content = with_elem (tell d) old.content } → new ≡ with_elements (map tell (take (i + 1) ns)) t
  next-put ns i d t old new within is before put =
      let more : take (i + 1) ns ≡ take i ns ++ d ∷ [] = take_more ns i d within ∙ ap (λ (x : Note). take i ns ++ x ∷ []) (sym is) in
      let told : map tell (take (i + 1) ns) ≡ map tell (take i ns) ++ tell d ∷ [] = ap (map tell) more ∙ map-append tell (take i ns) (d ∷ []) in
      put ∙ ap (λ (x : Tree). record x { content = with_elem (tell d) x.content }) before
      ∙ sym (all-append (map tell (take i ns)) (tell d ∷ []) t) ∙ ap (λ (l : List Tree). with_elements l t) (sym told)

-- the tag after the records of both pieces
pub tag-joined : (tag : ℕ) (older newer : List Note) → tag_after (tag_after tag older) newer ≡ tag_after tag (older ++ newer)
tag-joined tag [] newer = refl
tag-joined tag (n ∷ older) newer = tag-joined n.next older newer

pub last-tag : (from : ℕ) (ns : List Note) (n : Note) → slice_get ns (length ns - 1) ≡ Some n → tag_after from ns ≡ n.next
last-tag from [] n h = cc
last-tag from (x ∷ []) n h =
    let e : length (x ∷ []) - 1 ≡ 0 = omega arith in
    let g : Some x ≡ Some n = subst (λ (k : ℕ). slice_get (x ∷ []) k ≡ Some n) e h in
    let same : x ≡ n = cc in ap (λ (y : Note). y.next) same
last-tag from (x ∷ y ∷ ns) n h =
    let e : length (x ∷ y ∷ ns) - 1 ≡ suc (length (y ∷ ns) - 1) = omega arith in
    last-tag x.next (y ∷ ns) n (subst (λ (k : ℕ). slice_get (x ∷ y ∷ ns) k ≡ Some n) e h)

-- all operations, added from two pieces
pub two-put : (tell : Note → Tree) (n : Name) (ds : List Decl) (ats : List Attr) (older newer : List Note) (first some all : Tree) → first ≡ tree_of n ds ats (last [])
    → some ≡ with_elements (map tell older) first → all ≡ with_elements (map tell newer) some → all ≡ tree_of n ds ats (listed (map tell (older ++ newer)))
two-put tell n ds ats older newer first some all made then next =
    next ∙ ap (with_elements (map tell newer)) (then ∙ ap (with_elements (map tell older)) made)
    ∙ sym (all-append (map tell older) (map tell newer) (tree_of n ds ats (last [])))
    ∙ all-listed n ds ats (map tell older ++ map tell newer)
    ∙ ap (λ (l : List Tree). tree_of n ds ats (listed l)) (sym (map-append tell older newer))

-- all operations, added after other elements
pub two-behind : (tell : Note → Tree) (older newer : List Note) (t some all : Tree) → some ≡ with_elements (map tell older) t → all ≡ with_elements (map tell newer) some
    → all ≡ with_elements (map tell (older ++ newer)) t
two-behind tell older newer t some all then next =
    next ∙ ap (with_elements (map tell newer)) then ∙ sym (all-append (map tell older) (map tell newer) t)
    ∙ ap (λ (l : List Tree). with_elements l t) (sym (map-append tell older newer))
