-- A change leaves the elements around it as they are, but for the child element on the way to it.
use Rattle.std.proofs.Common.{◌≡◌, ℕ, zero, suc, List, [], ◌∷◌, ◌++◌, Option, None, Some, option_and_then, refl, sym, ap, subst, ◌∙◌}
use Rattle.std.specs.List.{slice_get}
use Rattle.xml_tree.specs.Tree.{Content, last, more, comment_node, more_of, Tree, child_elements, child_elements_of, at}
use Rattle.xml_tree.specs.Edits.{change_element, change_child, change_at, put_kid, cut_child, set_attr_value, drop_attr, last_number}
use Rattle.edit_ops.specs.ChangeSites.{change_site}
use Rattle.edit_ops.specs.Changes.{FitsTree, edited}
use Rattle.edit_ops.specs.declared.change.Change.{Change}
use Rattle.edit_ops.specs.declared.change.Change.TheVariants.{CreateDocument, Insert, Replace, Remove, SetAttr, DropAttr, RemoveDocument}
use Rattle.xcap_laws.specs.UnchangedAncestors.{KeepsAncestors}

-- a function changes the n-th element into a certain one
agree : (n : ℕ) (f : Tree → Tree) (c : Content) → (child : Tree) × (change_element n f c ≡ change_element n (λ _. child) c)
agree n f (last t) = (record { name = record { prefix = []; local = [] }; decls = []; attrs = []; content = last [] }, refl)
agree zero f (more t m ds ats c rest) = (f (record { name = m; decls = ds; attrs = ats; content = c }), refl)
agree (suc n) f (more t m ds ats c rest) = let g = agree n f rest in (g.0, ap (more t m ds ats c) g.1)
agree n f (comment_node t c rest) = let g = agree n f rest in (g.0, ap (comment_node t c) g.1)

child_of : (n : ℕ) (f : Tree → Tree) (e : Tree) → (child : Tree) × (change_child n f e ≡ change_child n (λ _. child) e)
child_of n f e = let g = agree n f e.content in (g.0, ap (λ (x : Content). record e { content = x }) g.1)

-- the child of that number, after it was changed
changed_child : (n : ℕ) (f : Tree → Tree) (c : Content) (k : Tree) → slice_get (child_elements c) n ≡ Some k → slice_get (child_elements (change_element n f c)) n ≡ Some (f k)
changed_child n f (last t) k is = let z : None ≡ Some k = is in cc
changed_child zero f (more t m ds ats c rest) k is = let same : ◌≡◌ {A = Tree} (record { name = m; decls = ds; attrs = ats; content = c }) k = cc in ap (λ (x : Tree). Some (f x)) same
changed_child (suc n) f (more t m ds ats c rest) k is = changed_child n f rest k is
changed_child n f (comment_node t c rest) k is = changed_child n f rest k is

-- an element on the way to a change
on_the_way : (p : List ℕ) (n : ℕ) (rest : List ℕ) (f : Tree → Tree) (t e : Tree) → at p t ≡ Some e → at p (change_at (p ++ n ∷ rest) f t) ≡ Some (change_child n (change_at rest f) e)
on_the_way [] n rest f t e is = let same : t ≡ e = cc in ap (λ (x : Tree). Some (change_child n (change_at rest f) x)) same
on_the_way (m ∷ p) n rest f t e is = by (slice_get (child_elements_of t) m) refl is (λ k. on_the_way p n rest f k e)
  where
    by : (o : Option Tree) → slice_get (child_elements_of t) m ≡ o → option_and_then (at p) o ≡ Some e
        → ((k : Tree) → at p k ≡ Some e → at p (change_at (p ++ n ∷ rest) f k) ≡ Some (change_child n (change_at rest f) e)) → at (m ∷ p) (change_at (m ∷ p ++ n ∷ rest) f t) ≡ Some (change_child n (change_at rest f) e)
    by None there h below = let z : None ≡ Some e = h in cc
    by (Some k) there h below =
        ap (option_and_then (at p)) (changed_child m (change_at (p ++ n ∷ rest) f) t.content k there) ∙ below k h

at_site : (site p rest : List ℕ) (n : ℕ) (f : Tree → Tree) (t e : Tree) → site ≡ p ++ n ∷ rest → at p t ≡ Some e → (child : Tree) × (at p (change_at site f t) ≡ Some (change_child n (λ _. child) e))
at_site site p rest n f t e goes is =
    let g = child_of n (change_at rest f) e in
    (g.0, ap (λ (s : List ℕ). at p (change_at s f t)) goes ∙ on_the_way p n rest f t e is ∙ ap (λ (x : Tree). Some x) g.1)

pub ancestors_stay : (t : Tree) (change : Change) → FitsTree t change → KeepsAncestors t change (edited t change)
ancestors_stay t (CreateDocument root) fits p rest n e goes is = absurd fits
ancestors_stay t (Insert parent gap element) fits p rest n e goes is = at_site parent p rest n (put_kid gap element) t e goes is
ancestors_stay t (Replace w element) fits p rest n e goes is = at_site w p rest n (λ _. element) t e goes is
ancestors_stay t (Remove w) fits p rest n e goes is = at_site _ p rest n (cut_child (last_number w)) t e goes is
ancestors_stay t (SetAttr w name value) fits p rest n e goes is = at_site w p rest n (set_attr_value name value) t e goes is
ancestors_stay t (DropAttr w name) fits p rest n e goes is = at_site w p rest n (drop_attr name) t e goes is
ancestors_stay t RemoveDocument fits p rest n e goes is = absurd fits
