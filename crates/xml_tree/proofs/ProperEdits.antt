-- Trees that are proper before an edit and after it.
use Rattle.std.proofs.Common.{◌≡◌, ◌≤◌, ℕ, zero, suc, List, [], ◌∷◌, ◌++◌, length, take, drop, Option, Some, None, option_and_then, refl, sym, ap, ◌∙◌, subst, append_assoc}
use Rattle.std.proofs.Math.Seq.{take-nil, drop-nil}
use Rattle.std.specs.List.{AllByRecursion, slice_get}
use Rattle.xml_names.specs.declared.names.Decl.{Decl}
use Rattle.xml_tree.specs.declared.tree.Node.{Node}
use Rattle.xml_tree.specs.Tree.{Content, last, more, comment_node, Tree, tree_of, at, child_elements, child_elements_of}
use Rattle.xml_tree.specs.Edits.{change_element, change_at, cut, cut_out, last_number, parent_path, put, put_in, put_kid, put_over}
use Rattle.xml_tree.specs.Nodes.{exchange_in_content, exchange_nodes, nodes_of}
use Rattle.xml_tree.specs.TreeScopes.{scope_around, scope_at}
use Rattle.xml_tree.specs.Proper.{ContentPart, HoldsOfContent, HoldsOfNode, HoldsOfTree}
use Rattle.xml_tree.proofs.EverywhereLaws.{scope_around-below, scope_at-around, inside, Throughout-change_at, Everywhere-put, put-Everywhere, Everywhere-cut, Everywhere-content_of, nodes-Everywhere}
use Rattle.xml_tree.proofs.Places.{content_of-nodes_of}

-- ---- the changed place in the changed tree
child_element-change_element : (n : ℕ) (g : Tree → Tree) (k : Content) (x : Tree) → slice_get (child_elements k) n ≡ Some x → slice_get (child_elements (change_element n g k)) n ≡ Some (g x)
child_element-change_element n g (last t) x is = cc
child_element-change_element zero g (more t m ds ats k rest) x is = let same : tree_of m ds ats k ≡ x = cc in ap (λ y. Some (g y)) same
child_element-change_element (suc n) g (more t m ds ats k rest) x is = child_element-change_element n g rest x is
child_element-change_element n g (comment_node t y rest) x is = child_element-change_element n g rest x is

pub at-change_at : (p : List ℕ) (f : Tree → Tree) (t e : Tree) → at p t ≡ Some e → at p (change_at p f t) ≡ Some (f e)
at-change_at [] f t e there = let same : t ≡ e = cc in ap (λ y. Some (f y)) same
at-change_at (n ∷ p) f t e there = by (slice_get (child_elements_of t) n) refl there (λ k. at-change_at p f k e)
  where
    by : (o : Option Tree) → slice_get (child_elements_of t) n ≡ o → option_and_then (at p) o ≡ Some e → ((k : Tree) → at p k ≡ Some e → at p (change_at p f k) ≡ Some (f e))
        → at (n ∷ p) (change_at (n ∷ p) f t) ≡ Some (f e)
    by None is h go = cc
    by (Some k) is h go = ap (option_and_then (at p)) (child_element-change_element n (change_at p f) t.content k is) ∙ go k h

pub around-change_at : (p : List ℕ) (f : Tree → Tree) (t e : Tree) → at p t ≡ Some e → scope_around p (change_at p f t) ≡ scope_around p t
around-change_at [] f t e there = refl
around-change_at (n ∷ p) f t e there = by (slice_get (child_elements_of t) n) refl there (λ k. around-change_at p f k e)
  where
    by : (o : Option Tree) → slice_get (child_elements_of t) n ≡ o → option_and_then (at p) o ≡ Some e → ((k : Tree) → at p k ≡ Some e → scope_around p (change_at p f k) ≡ scope_around p k)
        → scope_around (n ∷ p) (change_at (n ∷ p) f t) ≡ scope_around (n ∷ p) t
    by None is h go = cc
    by (Some k) is h go =
        scope_around-below n p (change_at (n ∷ p) f t) (change_at p f k) (child_element-change_element n (change_at p f) t.content k is) ∙ ap (λ s. t.decls ∷ s) (go k h)
        ∙ sym (scope_around-below n p t k is)

-- an element with its content changed
abbrev pub with_content : (Content → Content) → Tree → Tree
with_content f e = record e { content = f e.content }

module _ (P : List (List Decl) → ContentPart → Type 0) where
  -- the scope of a place, after a scope around the tree
  own : (c : List (List Decl)) (p : List ℕ) (t e : Tree) → at p t ≡ Some e → (c ++ scope_around p t) ++ e.decls ∷ [] ≡ c ++ scope_at p t
  own c p t e there = append_assoc c (scope_around p t) (e.decls ∷ []) ∙ ap (λ s. c ++ s) (sym (scope_at-around p t e there))

  -- another content, which is proper in the scope of the place
  pub with-content : (c : List (List Decl)) (p : List ℕ) (f : Content → Content) (t : Tree)
      → ((k : Content) → HoldsOfContent P (c ++ scope_at p t) k → HoldsOfContent P (c ++ scope_at p t) (f k)) → HoldsOfTree P c t → HoldsOfTree P c (change_at p (with_content f) t)
  with-content c p f t keeps = Throughout-change_at P p (with_content f) c t (λ e there h. (
    h.0,
    subst (λ s. HoldsOfContent P s (f e.content)) (sym (own c p t e there)) (keeps e.content (subst (λ s. HoldsOfContent P s e.content) (own c p t e there) h.1)),
  ))

  pub with-element : (c : List (List Decl)) (p : List ℕ) (j : ℕ) (e t : Tree) → HoldsOfTree P (c ++ scope_at p t) e → HoldsOfTree P c t → HoldsOfTree P c (put_in p j e t)
  with-element c p j e t h = with-content c p (λ k. put j e k) t (λ k g. Everywhere-put P (c ++ scope_at p t) j e k h g)

  pub with-other : (c : List (List Decl)) (p : List ℕ) (e t : Tree) → HoldsOfTree P (c ++ scope_around p t) e → HoldsOfTree P c t → HoldsOfTree P c (put_over p e t)
  with-other c p e t h = Throughout-change_at P p (λ _. e) c t (λ _ _ _. h)

  pub without : (c : List (List Decl)) (p : List ℕ) (t : Tree) → HoldsOfTree P c t → HoldsOfTree P c (cut_out p t)
  without c p t = with-content c (parent_path p) (λ k. cut (last_number p) k) t (λ k g. Everywhere-cut P (c ++ scope_at (parent_path p) t) (last_number p) k g)

  -- ---- other nodes
  All-append : (s : List (List Decl)) (xs ys : List Node) → AllByRecursion (HoldsOfNode P s) xs → AllByRecursion (HoldsOfNode P s) ys → AllByRecursion (HoldsOfNode P s) (xs ++ ys)
  All-append s [] ys h g = g
  All-append s (x ∷ xs) ys h g = (h.0, All-append s xs ys h.1 g)

  All-take : (s : List (List Decl)) (i : ℕ) (xs : List Node) → AllByRecursion (HoldsOfNode P s) xs → AllByRecursion (HoldsOfNode P s) (take i xs)
  All-take s i [] h = rw (take-nil i) tt
  All-take s zero (x ∷ xs) h = tt
  All-take s (suc i) (x ∷ xs) h = (h.0, All-take s i xs h.1)

  All-drop : (s : List (List Decl)) (i : ℕ) (xs : List Node) → AllByRecursion (HoldsOfNode P s) xs → AllByRecursion (HoldsOfNode P s) (drop i xs)
  All-drop s i [] h = rw (drop-nil i) tt
  All-drop s zero (x ∷ xs) h = h
  All-drop s (suc i) (x ∷ xs) h = All-drop s i xs h.1

  Everywhere-exchange_in_content : (s : List (List Decl)) (from to : ℕ) (ns : List Node) (k : Content) → AllByRecursion (HoldsOfNode P s) ns → HoldsOfContent P s k → HoldsOfContent P s (exchange_in_content from to ns k)
  Everywhere-exchange_in_content s from to ns k h g =
      let all : AllByRecursion (HoldsOfNode P s) (nodes_of k) = nodes-Everywhere P s (nodes_of k) (subst (HoldsOfContent P s) (sym (content_of-nodes_of k)) g) in
      Everywhere-content_of P s (take from (nodes_of k) ++ (ns ++ drop to (nodes_of k)))
      (All-append s (take from (nodes_of k)) (ns ++ drop to (nodes_of k)) (All-take s from (nodes_of k) all)
      (All-append s ns (drop to (nodes_of k)) h (All-drop s to (nodes_of k) all)))

  pub with-nodes : (c : List (List Decl)) (p : List ℕ) (from to : ℕ) (ns : List Node) (t : Tree) → AllByRecursion (HoldsOfNode P (c ++ scope_at p t)) ns → HoldsOfTree P c t
      → HoldsOfTree P c (change_at p (exchange_nodes from to ns) t)
  with-nodes c p from to ns t h = with-content c p (exchange_in_content from to ns) t (λ k g. Everywhere-exchange_in_content (c ++ scope_at p t) from to ns k h g)

  -- ---- what was put into a proper tree
  pub put-element : (c : List (List Decl)) (p : List ℕ) (j : ℕ) (e t k : Tree) → at p t ≡ Some k → j ≤ length (child_elements_of k) → HoldsOfTree P c (put_in p j e t)
      → HoldsOfTree P (c ++ scope_at p t) e
  put-element c p j e t k there within h =
      let low = inside P p c (put_in p j e t) (put_kid j e k) (at-change_at p (put_kid j e) t k there) h in
      let here = put-Everywhere P ((c ++ scope_around p (put_in p j e t)) ++ k.decls ∷ []) j e k.content within low.1 in
      let scopes = ap (λ s. (c ++ s) ++ k.decls ∷ []) (around-change_at p (put_kid j e) t k there) ∙ own c p t k there in
      subst (λ s. HoldsOfTree P s e) scopes here

  pub put-other : (c : List (List Decl)) (p : List ℕ) (e t k : Tree) → at p t ≡ Some k → HoldsOfTree P c (put_over p e t) → HoldsOfTree P (c ++ scope_around p t) e
  put-other c p e t k there h =
      subst (λ s. HoldsOfTree P s e) (ap (λ s. c ++ s) (around-change_at p (λ _. e) t k there)) (inside P p c (put_over p e t) e (at-change_at p (λ _. e) t k there) h)
