-- What holds everywhere in a tree, in its parts, in changed trees, and in the scope of a place.
use Rattle.std.proofs.Common.{◌≡◌, ◌≤◌, ℕ, zero, suc, List, [], ◌∷◌, ◌++◌, length, Option, Some, None, option_map, option_and_then, unwrap_or, refl, sym, ap, ◌∙◌, subst, append_assoc, append-nil, arith}
use Rattle.std.specs.List.{AllByRecursion, slice_get}
use Rattle.xml_names.specs.declared.names.Decl.{Decl}
use Rattle.xml_tree.specs.declared.tree.Node.{Node}
use Rattle.xml_tree.specs.declared.tree.Node.TheVariants.{Elem, Chars, Comment}
use Rattle.xml_tree.specs.Tree.{Content, last, more, comment_node, Tree, tree_of, at, child_elements, child_elements_of}
use Rattle.xml_tree.specs.Edits.{with_text_prepended, change_element, change_at, cut, parent_path, put}
use Rattle.xml_tree.specs.Nodes.{content_of}
use Rattle.xml_tree.specs.TreeScopes.{scope_around, scope_at}
use Rattle.xml_tree.specs.Proper.{ContentPart, HoldsOfContent, HoldsOfChars, HoldsOfNode, HoldsOfTree}

-- ---- the scopes of places

-- the scope around a place below a child element begins with the element's declarations
pub scope_around-below : (n : ℕ) (p : List ℕ) (t k : Tree) → slice_get (child_elements_of t) n ≡ Some k → scope_around (n ∷ p) t ≡ t.decls ∷ scope_around p k
scope_around-below n [] t k is = refl
scope_around-below n (m ∷ p) t k is = ap (λ o. t.decls ∷ unwrap_or (option_map (scope_at (parent_path (m ∷ p))) o) []) is

-- the scope at a place is the scope around it with the declarations of the element there
pub scope_at-around : (p : List ℕ) (t e : Tree) → at p t ≡ Some e → scope_at p t ≡ scope_around p t ++ e.decls ∷ []
scope_at-around [] t e there = let same : t ≡ e = cc in ap (λ (x : Tree). x.decls ∷ []) same
scope_at-around (n ∷ p) t e there = by (slice_get (child_elements_of t) n) refl there (λ k. scope_at-around p k e)
  where
    by : (o : Option Tree) → slice_get (child_elements_of t) n ≡ o → option_and_then (at p) o ≡ Some e → ((k : Tree) → at p k ≡ Some e → scope_at p k ≡ scope_around p k ++ e.decls ∷ [])
        → scope_at (n ∷ p) t ≡ scope_around (n ∷ p) t ++ e.decls ∷ []
    by None is h f = cc
    by (Some k) is h f =
        ap (λ o. t.decls ∷ unwrap_or (option_map (scope_at p) o) []) is ∙ ap (λ s. t.decls ∷ s) (f k h)
        ∙ ap (λ s. s ++ e.decls ∷ []) (sym (scope_around-below n p t k is))

-- ---- parts
module _ (P : List (List Decl) → ContentPart → Type 0) where
  pub Letters-append : (c : List (List Decl)) (t u : List ℕ) → HoldsOfChars P c t → HoldsOfChars P c u → HoldsOfChars P c (t ++ u)
  Letters-append c [] u h g = g
  Letters-append c (x ∷ t) u h g = (h.0, Letters-append c t u h.1 g)

  first_letters : (c : List (List Decl)) (t u : List ℕ) → HoldsOfChars P c (t ++ u) → HoldsOfChars P c t
  first_letters c [] u h = tt
  first_letters c (x ∷ t) u h = (h.0, first_letters c t u h.1)

  last_letters : (c : List (List Decl)) (t u : List ℕ) → HoldsOfChars P c (t ++ u) → HoldsOfChars P c u
  last_letters c [] u h = h
  last_letters c (x ∷ t) u h = last_letters c t u h.1

  pub Everywhere-before : (c : List (List Decl)) (t : List ℕ) (k : Content) → HoldsOfChars P c t → HoldsOfContent P c k → HoldsOfContent P c (with_text_prepended t k)
  Everywhere-before c t (last u) h g = Letters-append c t u h g
  Everywhere-before c t (more u n ds ats k rest) h g = (Letters-append c t u h g.0, g.1, g.2, g.3)
  Everywhere-before c t (comment_node u x rest) h g = (Letters-append c t u h g.0, g.1, g.2)

  parts-before : (c : List (List Decl)) (t : List ℕ) (k : Content) → HoldsOfContent P c (with_text_prepended t k) → HoldsOfChars P c t × HoldsOfContent P c k
  parts-before c t (last u) h = (first_letters c t u h, last_letters c t u h)
  parts-before c t (more u n ds ats k rest) h = (first_letters c t u h.0, (last_letters c t u h.0, h.1, h.2, h.3))
  parts-before c t (comment_node u x rest) h = (first_letters c t u h.0, (last_letters c t u h.0, h.1, h.2))

  -- a content of nodes, node by node
  pub Everywhere-content_of : (c : List (List Decl)) (ns : List Node) → AllByRecursion (HoldsOfNode P c) ns → HoldsOfContent P c (content_of ns)
  Everywhere-content_of c [] h = tt
  Everywhere-content_of c (Elem e ∷ ns) h = (tt, h.0.0, h.0.1, Everywhere-content_of c ns h.1)
  Everywhere-content_of c (Chars t ∷ ns) h = Everywhere-before c t (content_of ns) h.0 (Everywhere-content_of c ns h.1)
  Everywhere-content_of c (Comment x ∷ ns) h = (tt, h.0, Everywhere-content_of c ns h.1)

  pub nodes-Everywhere : (c : List (List Decl)) (ns : List Node) → HoldsOfContent P c (content_of ns) → AllByRecursion (HoldsOfNode P c) ns
  nodes-Everywhere c [] h = tt
  nodes-Everywhere c (Elem e ∷ ns) h = ((h.1, h.2), nodes-Everywhere c ns h.3)
  nodes-Everywhere c (Chars t ∷ ns) h = let parts = parts-before c t (content_of ns) h in (parts.0, nodes-Everywhere c ns parts.1)
  nodes-Everywhere c (Comment x ∷ ns) h = (h.1, nodes-Everywhere c ns h.2)

  -- ---- child elements
  pub Everywhere-child_element : (c : List (List Decl)) (n : ℕ) (k : Content) (x : Tree) → slice_get (child_elements k) n ≡ Some x → HoldsOfContent P c k → HoldsOfTree P c x
  Everywhere-child_element c n (last t) x is h = cc
  Everywhere-child_element c zero (more t m ds ats k rest) x is h = let same : tree_of m ds ats k ≡ x = cc in subst (HoldsOfTree P c) same (h.1, h.2)
  Everywhere-child_element c (suc n) (more t m ds ats k rest) x is h = Everywhere-child_element c n rest x is h.3
  Everywhere-child_element c n (comment_node t y rest) x is h = Everywhere-child_element c n rest x is h.2

  pub Everywhere-change_element : (c : List (List Decl)) (n : ℕ) (g : Tree → Tree) (k : Content)
      → ((x : Tree) → slice_get (child_elements k) n ≡ Some x → HoldsOfTree P c x → HoldsOfTree P c (g x)) → HoldsOfContent P c k → HoldsOfContent P c (change_element n g k)
  Everywhere-change_element c n g (last t) f h = h
  Everywhere-change_element c zero g (more t m ds ats k rest) f h = let r = f (tree_of m ds ats k) refl (h.1, h.2) in (h.0, r.0, r.1, h.3)
  Everywhere-change_element c (suc n) g (more t m ds ats k rest) f h = (h.0, h.1, h.2, Everywhere-change_element c n g rest f h.3)
  Everywhere-change_element c n g (comment_node t x rest) f h = (h.0, h.1, Everywhere-change_element c n g rest f h.2)

  pub Everywhere-put : (c : List (List Decl)) (j : ℕ) (e : Tree) (k : Content) → HoldsOfTree P c e → HoldsOfContent P c k → HoldsOfContent P c (put j e k)
  Everywhere-put c zero e k g h = (tt, g.0, g.1, h)
  Everywhere-put c (suc j) e (last t) g h = h
  Everywhere-put c (suc j) e (more t m ds ats k rest) g h = (h.0, h.1, h.2, Everywhere-put c j e rest g h.3)
  Everywhere-put c (suc j) e (comment_node t x rest) g h = (h.0, h.1, Everywhere-put c (suc j) e rest g h.2)

  pub put-Everywhere : (c : List (List Decl)) (j : ℕ) (e : Tree) (k : Content) → j ≤ length (child_elements k) → HoldsOfContent P c (put j e k) → HoldsOfTree P c e
  put-Everywhere c zero e k within h = (h.1, h.2)
  put-Everywhere c (suc j) e (last t) within h = absurd (omega arith)
  put-Everywhere c (suc j) e (more t m ds ats k rest) within h = put-Everywhere c j e rest (omega arith) h.3
  put-Everywhere c (suc j) e (comment_node t x rest) within h = put-Everywhere c (suc j) e rest within h.2

  pub Everywhere-cut : (c : List (List Decl)) (i : ℕ) (k : Content) → HoldsOfContent P c k → HoldsOfContent P c (cut i k)
  Everywhere-cut c i (last t) h = h
  Everywhere-cut c zero (more t m ds ats k rest) h = Everywhere-before c t rest h.0 h.3
  Everywhere-cut c (suc i) (more t m ds ats k rest) h = (h.0, h.1, h.2, Everywhere-cut c i rest h.3)
  Everywhere-cut c i (comment_node t x rest) h = (h.0, h.1, Everywhere-cut c i rest h.2)

  -- ---- places
  scopes_join : (c s : List (List Decl)) (ds : List Decl) (r : List (List Decl)) → r ≡ ds ∷ s → (c ++ ds ∷ []) ++ s ≡ c ++ r
  scopes_join c s ds r is = append_assoc c (ds ∷ []) s ∙ ap (λ x. c ++ x) (sym is)

  -- the property holds of what is at a place, in the scope around it
  pub inside : (p : List ℕ) (c : List (List Decl)) (t e : Tree) → at p t ≡ Some e → HoldsOfTree P c t → HoldsOfTree P (c ++ scope_around p t) e
  inside [] c t e there h = let same : t ≡ e = cc in rw (append-nil c) (subst (HoldsOfTree P c) same h)
  inside (n ∷ p) c t e there h = by (slice_get (child_elements_of t) n) refl there (λ k. inside p (c ++ t.decls ∷ []) k e)
    where
      by : (o : Option Tree) → slice_get (child_elements_of t) n ≡ o → option_and_then (at p) o ≡ Some e
          → ((k : Tree) → at p k ≡ Some e → HoldsOfTree P (c ++ t.decls ∷ []) k → HoldsOfTree P ((c ++ t.decls ∷ []) ++ scope_around p k) e) → HoldsOfTree P (c ++ scope_around (n ∷ p) t) e
      by None is g f = cc
      by (Some k) is g f =
          subst (λ s. HoldsOfTree P s e) (scopes_join c (scope_around p k) t.decls (scope_around (n ∷ p) t) (scope_around-below n p t k is))
          (f k g (Everywhere-child_element (c ++ t.decls ∷ []) n t.content k is h.1))

  -- a tree that is changed at a place, where the change preserves the property there
  pub Throughout-change_at : (p : List ℕ) (f : Tree → Tree) (c : List (List Decl)) (t : Tree)
      → ((e : Tree) → at p t ≡ Some e → HoldsOfTree P (c ++ scope_around p t) e → HoldsOfTree P (c ++ scope_around p t) (f e)) → HoldsOfTree P c t → HoldsOfTree P c (change_at p f t)
  Throughout-change_at [] f c t keeps h = rw (append-nil c) at (keeps t refl (rw (append-nil c) h))
  Throughout-change_at (n ∷ p) f c t keeps h = (
    h.0,
    Everywhere-change_element (c ++ t.decls ∷ []) n (change_at p f) t.content (λ k is. Throughout-change_at p f (c ++ t.decls ∷ []) k (λ e there.
        let join = scopes_join c (scope_around p k) t.decls (scope_around (n ∷ p) t) (scope_around-below n p t k is) in
        λ g. subst (λ s. HoldsOfTree P s (f e)) (sym join) (keeps e (ap (option_and_then (at p)) is ∙ there) (subst (λ s. HoldsOfTree P s e) join g)))) h.1,
  )
