-- What a change leaves of the elements around it.
use Rattle.std.specs.Prelude.{◌≡◌, ℕ, List, ◌∷◌, ◌++◌, Some}
use Rattle.xml_tree.specs.Tree.{Tree, at}
use Rattle.xml_tree.specs.Edits.{change_child}
use Rattle.edit_ops.specs.ChangeSites.{change_site}
use Rattle.edit_ops.specs.declared.change.Change.{Change}

-- each element around the one that is changed has its name, declarations, attributes, texts and
-- comments, and all child elements but the one on the way to the change
abbrev pub KeepsAncestors : Tree → Change → Tree → Type 0
KeepsAncestors t change new =
    (p rest : List ℕ) (n : ℕ) (element : Tree) → change_site change ≡ p ++ n ∷ rest
    → at p t ≡ Some element
    → (child : Tree) × (at p new ≡ Some (change_child n (λ _. child) element))
