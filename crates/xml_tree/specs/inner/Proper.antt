-- Contents that are proper as a whole.
use Rattle.std.specs.Prelude.{List}
use Rattle.xml_tree.specs.Tree.{Content}
use Rattle.xml_names.specs.declared.names.Decl.{Decl}
use Rattle.xml_tree.specs.Proper.{HoldsOfContent, IsProperPart}

-- a proper content, in the scope inside its element
abbrev pub IsProperContent : List (List Decl) → Content → Type 0
IsProperContent = HoldsOfContent IsProperPart
