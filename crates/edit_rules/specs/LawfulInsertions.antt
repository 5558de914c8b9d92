-- Where a new element may be inserted, and whether an element may replace another: the address
-- then selects exactly it. RFC 4825, section 8.2.3: a GET of the same address returns what was
-- put.
use Rattle.std.specs.Prelude.{◌≡◌, ℕ, List, [], ◌∷◌, ◌++◌}
use Rattle.xml_tree.specs.Tree.{Tree, tree_of}
use Rattle.xml_tree.specs.Edits.{put_in, put_over}
use Rattle.node_select.specs.Selection.{SelectsPath}
use Rattle.node_select.specs.declared.selector.Step.{Step}

-- with the element inserted into this gap of the element at q, the steps select exactly the path
-- q followed by the gap
abbrev pub IsLawfulGap : List Step → Tree → Tree → List ℕ → ℕ → Type 0
IsLawfulGap steps t e q gap = SelectsPath steps (put_in q gap e t) (q ++ gap ∷ [])

-- with the element in place of the one at p, the steps select exactly p
abbrev pub IsLawfulReplacement : List Step → Tree → Tree → List ℕ → Type 0
IsLawfulReplacement steps t e p = SelectsPath steps (put_over p e t) p

-- the change leaves an element's name, declarations and attributes, whichever element it is made in
abbrev pub KeepsStartTag : (Tree → Tree) → Type 0
KeepsStartTag f = (e : Tree) → f e ≡ tree_of e.name e.decls e.attrs (f e).content
