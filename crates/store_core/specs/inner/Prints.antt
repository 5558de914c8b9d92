-- The print of a document, as it is cached with the tree.
use Rattle.std.specs.Prelude.{◌≡◌, ℕ, List, Option, None, Some, encode_utf8_all}
use Rattle.edit_ops.specs.declared.change.Change.{Change}
use Rattle.edit_ops.specs.InsertedElements.{InsertsElement, inserted_element}
use Rattle.xml_tree.specs.Tree.{Tree}
use Rattle.xml_tree.specs.Print.{document_print}

-- if there is a print, it is the print of the document with this tree
abbrev pub IsPrintOf : Tree → Option (List ℕ) → Type 0
IsPrintOf t None = Unit {0}
IsPrintOf t (Some bytes) = bytes ≡ encode_utf8_all (document_print t)

-- if there is a print, the change inserts an element, and it is the print of the document with
-- this root
abbrev pub IsInsertedPrint : Change → Option (List ℕ) → Type 0
IsInsertedPrint change None = Unit {0}
IsInsertedPrint change (Some bytes) =
    InsertsElement change × (bytes ≡ encode_utf8_all (document_print (inserted_element change)))
