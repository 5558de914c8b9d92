-- A print that is lent, as code represents it.
use Rattle.std.specs.Prelude.{ℕ, ◌≤◌, List, encode_utf8_all}
use Rattle.xml_names.specs.declared.limits.TheConstants.{MAX_LEVELS}
use Rattle.xml_tree.specs.Print.{document_print, print}
use Rattle.xml_tree.specs.Tree.{height}
use Rattle.tree_print.specs.declared.lent_print.PrintSource.{PrintSource}
use Rattle.tree_print.specs.declared.lent_print.PrintSource.TheVariants.{Made, Document, Element}

-- its bytes
abbrev pub lent_bytes : PrintSource → List ℕ
lent_bytes (Made bytes) = bytes.now
lent_bytes (Document root) = encode_utf8_all (document_print root.now)
lent_bytes (Element e) = encode_utf8_all (print e.now)

-- a tree that is still to be printed has few enough levels
abbrev pub IsWithinLevels : PrintSource → Type 0
IsWithinLevels (Made bytes) = Unit {0}
IsWithinLevels (Document root) = height root.now ≤ MAX_LEVELS
IsWithinLevels (Element e) = height e.now ≤ MAX_LEVELS
