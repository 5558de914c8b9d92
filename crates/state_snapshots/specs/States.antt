-- The state that the parts of a snapshot are of. This is the project's own.
use Rattle.std.specs.Prelude.{◌≡◌, ℕ, List, [], ◌∷◌, None, Some, Ok}
use Rattle.xml_names.specs.declared.limits.TheConstants.{MAX_LEVELS}
use Rattle.tree_text.specs.Faults.{IsTextResult}
use Rattle.store_core.specs.State.{Document, State}
use Rattle.state_snapshots.specs.Readings.{document_of, start_of_bytes}
use Rattle.state_snapshots.specs.Snapshots.{DocumentPart, start_of}

-- the part is of this document, of which there is one version: its text is read as its tree
pub record IsPartOf (part : List ℕ) (d : Document) : Type 0 where
  pub read : DocumentPart
  pub is : document_of part ≡ Some read
  pub id : d.id ≡ read.id
  pub tag : d.now.tag ≡ read.tag
  pub tree : IsTextResult MAX_LEVELS [] read.text (Ok d.now.tree)
  pub note : d.now.note ≡ None
  pub alone : d.earlier ≡ []

abbrev pub ArePartsOf : List (List ℕ) → List Document → Type 0
ArePartsOf [] [] = Unit {0}
ArePartsOf (part ∷ parts) (d ∷ ds) = IsPartOf part d × ArePartsOf parts ds
ArePartsOf _ _ = ⊥

-- the parts are a snapshot of this state, under this root
abbrev pub AreOfState : List ℕ → List (List ℕ) → State → Type 0
AreOfState root [] m = ⊥
AreOfState root (start ∷ parts) m =
    (start_of_bytes start ≡ Some (start_of root m)) × ArePartsOf parts m.documents
