-- The values that the grammar of tags makes of their parts, by name for the reader.
use Rattle.std.specs.Prelude.{ℕ, Bool, List, length}
use Rattle.xml_names.specs.declared.names.Name.{Name}
use Rattle.tree_text.specs.declared.raw_attribute.RawAttribute.{RawAttribute}
use Rattle.tree_text.specs.ContentPieces.{StartTag}

-- a raw attribute, of the white space before it and of its name and value with their width
abbrev pub raw_attribute_of : List ℕ × ((Name × List ℕ) × ℕ) → RawAttribute
raw_attribute_of x = record { name = x.1.0.0; value = x.1.0.1; gap = length x.0; size = x.1.1 }

-- a start tag, of its name, its raw attributes, and whether it is empty, with its width
abbrev pub start_tag_of : (Name × (List RawAttribute × Bool)) × ℕ → StartTag
start_tag_of x = record { name = x.0.0; raw_attribute = x.0.1.0; is_empty = x.0.1.1; size = x.1 }
