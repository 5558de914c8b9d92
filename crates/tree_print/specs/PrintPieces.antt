-- A print that is given piece by piece. This is the project's own.
use Rattle.std.specs.Prelude.{ℕ, Bool, List, if◌then◌else◌}
use Rattle.xml_tree.specs.Print.{document_print, print}
use Rattle.xml_tree.specs.Tree.{Tree}

-- What is still to come: its characters, and a number of pieces that they don't exceed.
pub record PrintRest : Type 0 where
  pub text : List ℕ
  pub most : ℕ

-- the print of a tree, as a document or as an element
abbrev pub print_of : Tree → Bool → List ℕ
print_of root document = if document then document_print root else print root
