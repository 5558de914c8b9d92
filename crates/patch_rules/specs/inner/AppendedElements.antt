-- Elements put after all nodes of another, one after another.
use Rattle.std.specs.Prelude.{List, [], ◌∷◌}
use Rattle.xml_tree.specs.Edits.{with_elem}
use Rattle.xml_tree.specs.Tree.{Tree}

abbrev pub with_elements : List Tree → Tree → Tree
with_elements [] t = t
with_elements (e ∷ es) t = with_elements es (record t { content = with_elem e t.content })
