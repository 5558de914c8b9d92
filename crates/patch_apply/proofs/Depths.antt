-- The depth of a tree after an edit.
use Rattle.std.proofs.Common.{◌≡◌, ℕ, suc, ◌+◌, ◌≤◌, max, true, List, [], ◌∷◌, ◌++◌, length, take, drop, Option, None, Some, IsSome, IsSomeAnd, option_map, refl, sym, ap, ◌∙◌, arith, ⊎_elim}
use Rattle.std.proofs.lemmas.Bool.{cases_Bool, le-leb, leb-false, leb-true, lt-leb}
use Rattle.std.proofs.lemmas.List.{take-append-drop}
use Rattle.std.specs.Prelude.{nat_le}
use Rattle.xml_tree.specs.Edits.{change_at, put_over}
use Rattle.xml_tree.specs.inner.Heights.{content_height-before}
use Rattle.xml_tree.specs.Nodes.{content_of, exchange_nodes, nodes_of, text_node}
use Rattle.xml_tree.specs.Tree.{Tree, at, height, content_height}
use Rattle.xml_names.specs.declared.names.Attr.{Attr}
use Rattle.xml_tree.specs.declared.tree.Node.{Node}
use Rattle.xml_tree.specs.declared.tree.Node.TheVariants.{Elem, Chars, Comment}
use Rattle.xml_tree.proofs.HeightLaws.{height-bounded, height-put_over}
use Rattle.xml_tree.proofs.PlaceLaws.{at-changed, height-at}
use Rattle.xml_tree.proofs.Places.{content_of-nodes_of}
use Rattle.patch_rules.specs.PatchOperations.{with_attrs, is_within_depth}
use Rattle.patch_apply.specs.inner.ContentNodes.{nodes_height}

-- ---- of nodes

pub height_of : (ns : List Node) → content_height (content_of ns) ≡ nodes_height ns
height_of [] = refl
height_of (Elem e ∷ ns) = ap (max (height e)) (height_of ns)
height_of (Chars t ∷ ns) = omega (arith, content_height-before t (content_of ns), height_of ns)
height_of (Comment x ∷ ns) = omega (arith, height_of ns)

height_append : (xs ys : List Node) → nodes_height (xs ++ ys) ≡ max (nodes_height xs) (nodes_height ys)
height_append [] ys = omega arith
height_append (x ∷ xs) ys = omega (arith, height_append xs ys)

pub text_height : (t : List ℕ) → nodes_height (text_node t) ≡ 0
text_height [] = refl
text_height (x ∷ t) = refl

-- ---- of an element whose nodes are replaced

module _ (i j : ℕ) (ns : List Node) (e : Tree) where
  front_low : nodes_height (take i (nodes_of e.content)) ≤ content_height e.content
  front_low =
      let l = nodes_of e.content in
      let whole = sym (height_append (take i l) (drop i l)) ∙ ap nodes_height (take-append-drop i l) ∙ sym (height_of l) ∙ ap content_height (content_of-nodes_of e.content) in omega (arith, whole)

  back_low : nodes_height (drop j (nodes_of e.content)) ≤ content_height e.content
  back_low =
      let l = nodes_of e.content in
      let whole = sym (height_append (take j l) (drop j l)) ∙ ap nodes_height (take-append-drop j l) ∙ sym (height_of l) ∙ ap content_height (content_of-nodes_of e.content) in omega (arith, whole)

  exchanged_is : height (exchange_nodes i j ns e) ≡ suc (max (nodes_height (take i (nodes_of e.content))) (max (nodes_height ns) (nodes_height (drop j (nodes_of e.content)))))
  exchanged_is =
      let l = nodes_of e.content in
      ap suc (height_of (take i l ++ (ns ++ drop j l)) ∙ height_append (take i l) (ns ++ drop j l) ∙ ap (max (nodes_height (take i l))) (height_append ns (drop j l)))

  exchanged_most : height (exchange_nodes i j ns e) ≤ max (height e) (suc (nodes_height ns))
  exchanged_most = omega (arith, exchanged_is, front_low, back_low)

  exchanged_least : suc (nodes_height ns) ≤ height (exchange_nodes i j ns e)
  exchanged_least = omega (arith, exchanged_is)

-- ---- of the whole tree

same_test : (h k t : ℕ) → k ≤ h → h ≤ max t k → t ≤ 64 → nat_le h 64 ≡ nat_le k 64
same_test h k t low most within =
    ⊎_elim
    (λ e. le-leb h 64 (let fits = leb-true k 64 e in omega (arith, fits, low, most, within)) ∙ sym e)
    (λ e. lt-leb h 64 (let over = leb-false k 64 e in omega (arith, over, low)) ∙ sym e)
    (cases_Bool (nat_le k 64))

there_after : (p : List ℕ) (f : Tree → Tree) (e t : Tree) → at p t ≡ Some e → at p (change_at p f t) ≡ Some (f e)
there_after p f e t is = at-changed p f t ∙ ap (option_map f) is

-- whether nodes that are put into an element fit is decided by the nodes alone
pub exchanged_fit : (p : List ℕ) (i j : ℕ) (ns : List Node) (e t : Tree) → at p t ≡ Some e → height t ≤ 64
    → is_within_depth (change_at p (exchange_nodes i j ns) t) ≡ nat_le (length p + suc (nodes_height ns)) 64
exchanged_fit p i j ns e t is low =
    let f = exchange_nodes i j ns in let new = change_at p f t in
    let least = height-at p (f e) new (there_after p f e t is) in
    let most = height-bounded p (suc (nodes_height ns)) f e t is (exchanged_most i j ns e) in
    same_test (height new) (length p + suc (nodes_height ns)) (height t) (omega (arith, least, exchanged_least i j ns e)) (omega (arith, most)) low

-- nodes without elements fit
pub shallow_fit : (p : List ℕ) (i j : ℕ) (ns : List Node) (e t : Tree) → at p t ≡ Some e → height t ≤ 64 → nodes_height ns ≡ 0
    → is_within_depth (change_at p (exchange_nodes i j ns) t) ≡ true
shallow_fit p i j ns e t is low flat = exchanged_fit p i j ns e t is low ∙ le-leb (length p + suc (nodes_height ns)) 64 (let deep = height-at p e t is in omega (arith, deep, low, flat))

-- whether an element that replaces another fits is decided by the new element alone
pub put_over_fits : (p : List ℕ) (w e t : Tree) → at p t ≡ Some e → height t ≤ 64 → is_within_depth (put_over p w t) ≡ nat_le (length p + height w) 64
put_over_fits p w e t is low =
    let new = put_over p w t in
    let least = height-at p w new (there_after p (λ (x : Tree). w) e t is) in
    same_test (height new) (length p + height w) (height t) least (height-put_over p w e t is) low

-- other attributes change no depth
pub attrs_fit : (p : List ℕ) (f : List Attr → List Attr) (e t : Tree) → at p t ≡ Some e → height t ≤ 64 → is_within_depth (change_at p (with_attrs f) t) ≡ true
attrs_fit p f e t is low =
    let most = height-bounded p 0 (with_attrs f) e t is (omega arith) in
    le-leb (height (change_at p (with_attrs f) t)) 64 (let deep = height-at p e t is in omega (arith, most, deep, low))

-- ---- the depth where the path leads to an element

pub some_is : (o : Option Tree) → IsSome o → (e : Tree) × (o ≡ Some e)
some_is None h = absurd (cc)
some_is (Some e) h = (e, refl)

pub some_if : (o : Option Tree) (P : Tree → Type 0) → IsSomeAnd o P → IsSome o
some_if None P h = absurd h
some_if (Some e) P h = refl

pub attrs_low : (p : List ℕ) (f : List Attr → List Attr) (t : Tree) → IsSome (at p t) → height t ≤ 64 → is_within_depth (change_at p (with_attrs f) t) ≡ true
attrs_low p f t there low = let s = some_is (at p t) there in attrs_fit p f s.0 t s.1 low

pub shallow_low : (p : List ℕ) (i j : ℕ) (ns : List Node) (t : Tree) → IsSome (at p t) → height t ≤ 64 → nodes_height ns ≡ 0 → is_within_depth (change_at p (exchange_nodes i j ns) t) ≡ true
shallow_low p i j ns t there low flat = let s = some_is (at p t) there in shallow_fit p i j ns s.0 t s.1 low flat

pub exchanged_low : (p : List ℕ) (i j : ℕ) (ns : List Node) (t : Tree) → IsSome (at p t) → height t ≤ 64 → is_within_depth (change_at p (exchange_nodes i j ns) t) ≡ nat_le (length p + suc (nodes_height ns)) 64
exchanged_low p i j ns t there low = let s = some_is (at p t) there in exchanged_fit p i j ns s.0 t s.1 low

pub put_over_low : (p : List ℕ) (w t : Tree) → IsSome (at p t) → height t ≤ 64 → is_within_depth (put_over p w t) ≡ nat_le (length p + height w) 64
put_over_low p w t there low = let s = some_is (at p t) there in put_over_fits p w s.0 t s.1 low

-- ---- the new tree is within the depth

pub low_made : (new : Tree) → is_within_depth new ≡ true → height new ≤ 64
low_made new e = leb-true (height new) 64 e
