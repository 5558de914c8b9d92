-- An element, one of whose child elements was modified.
use Rattle.std.proofs.Common.{◌≡◌, ℕ, List, ◌∷◌, Some, option_and_then, sym, ap, ◌∙◌}
use Rattle.std.specs.List.{slice_get}
use Rattle.xml_tree.specs.Tree.{Content, Tree, child_elements_of, at}
use Rattle.xml_tree.specs.Edits.{change_child}
use Rattle.xml_tree.specs.inner.NodeBorrows.{nodes_with_child}
use Rattle.xml_tree.proofs.Places.{AreNormal-set, content_of-child_element}
use Rattle.xml_tree.specs.declared.tree.Element.TheInside.{Inside}
use Rattle.xml_tree.specs.contracts.tree.Element.{the_view as view, the_invariant as IsWhole}

-- the parts `i` of an element whose child number `n` was `k` and is now `w`
module _ (i : Inside) (n : ℕ) (k w : Tree) (is : slice_get (child_elements_of (view i)) n ≡ Some k) where
  pub whole : IsWhole i → IsWhole (record i { nodes = nodes_with_child i.nodes n w })
  whole a = AreNormal-set n i.nodes.items w a

  pub changed : (f : Tree → Tree) → w ≡ f k → view (record i { nodes = nodes_with_child i.nodes n w }) ≡ change_child n f (view i)
  changed f made = ap (λ (x : Content). record (view i) { content = x }) (content_of-child_element n i.nodes.items f k w is (sym made))

  -- a path that continues from the child
  pub below : (p : List ℕ) (e : Tree) → at p k ≡ Some e → at (n ∷ p) (view i) ≡ Some e
  below p e there = ap (option_and_then (at p)) is ∙ there
