-- A child is built in place: an empty element is appended to the nodes of its parent, and then
-- filled there.
use Rattle.std.proofs.Common.{◌≡◌, ◌-◌, List, [], ◌∷◌, ◌++◌, length, slice_set, Option, Some, IsSome, refl, sym, subst, ap, ◌∙◌}
use Rattle.xml_tree.specs.Edits.{with_elem}
use Rattle.xml_tree.specs.Nodes.{AreNormalized, content_of, last_elem}
use Rattle.xml_tree.specs.Tree.{Content, last, Tree}
use Rattle.xml_tree.specs.declared.tree.Node.{Node}
use Rattle.xml_tree.specs.declared.tree.Node.TheVariants.{Elem}
use Rattle.xml_tree.proofs.LastElems.{last_elem-push, set-last}
use Rattle.xml_tree.proofs.Places.{AreNormal-push_elem, content_of-push_elem}
use Rattle.tree_text.specs.ContentPieces.{Inner}
use Rattle.tree_text.specs.readers.ContentReaders.{tree_with_markup}

module _ (before nodes : List Node) (bare : Tree) (added : nodes ≡ before ++ Elem bare ∷ []) where
  pub there : IsSome (last_elem nodes)
  there = subst (λ (o : Option Tree). IsSome o) (sym (ap last_elem added ∙ last_elem-push before bare)) refl

  pub is_bare : (child : Tree) → last_elem nodes ≡ Some child → child ≡ bare
  is_bare child h = let same : Some child ≡ Some bare = sym h ∙ (ap last_elem added ∙ last_elem-push before bare) in cc

  filled : (child : Tree) → slice_set nodes (length nodes - 1) (Elem child) ≡ before ++ Elem child ∷ []
  filled child = ap (λ (z : List Node). slice_set z (length z - 1) (Elem child)) added ∙ set-last before (Elem bare) (Elem child)

  pub still_normal : (child : Tree) → AreNormalized before → AreNormalized (slice_set nodes (length nodes - 1) (Elem child))
  still_normal child h = subst AreNormalized (sym (filled child)) (AreNormal-push_elem before child h)

  -- with the nodes back in it, the parent has the child after its content
  pub in_place : (child parent emptied made : Tree) → content_of before ≡ parent.content → emptied ≡ record parent { content = last [] }
      → made ≡ record emptied { content = content_of (slice_set nodes (length nodes - 1) (Elem child)) } → made ≡ tree_with_markup parent (Inner child)
  in_place child parent emptied made held none back =
      let content : content_of (slice_set nodes (length nodes - 1) (Elem child)) ≡ with_elem child parent.content = ap content_of (filled child) ∙ (content_of-push_elem before child ∙ ap (with_elem child) held) in
      back
      ∙ (ap (λ (e : Tree). let z : Tree = record e { content = content_of (slice_set nodes (length nodes - 1) (Elem child)) } in z) none
      ∙ ap (λ (k : Content). let z : Tree = record parent { content = k } in z) content)
