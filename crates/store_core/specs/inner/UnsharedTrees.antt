-- Which trees are unshared, so that a change can be made in them.
use Rattle.std.specs.Prelude.{◌≡◌, Bool, true, List, Some}
use Rattle.std.specs.Map.{lookup}
use Rattle.doc_names.specs.NameEquality.{same_id}
use Rattle.doc_names.specs.declared.doc_id.DocId.{DocId}

-- the tree of this document is unshared, if it is stored
abbrev pub IsUnshared : List (DocId × Bool) → DocId → Type 0
IsUnshared trees doc = (own : Bool) → lookup (same_id doc) trees ≡ Some own → own ≡ true
