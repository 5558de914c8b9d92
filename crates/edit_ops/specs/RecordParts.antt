-- The parts of change records, and changes of whole documents.
use Rattle.std.specs.Prelude.{ℕ, Bool, true, false, List, [], ◌∷◌}
use Rattle.xml_names.specs.declared.names.Decl.{Decl}
use Rattle.edit_ops.specs.declared.change.Change.{Change}
use Rattle.edit_ops.specs.declared.change.Change.TheVariants.{CreateDocument, RemoveDocument}
use Rattle.edit_ops.specs.Notes.{Note}

abbrev pub made_note : ℕ → ℕ → List Decl → Change → Bool → Note
made_note previous next bindings change fresh =
    record { previous = previous; next = next; bindings = bindings; change = change; fresh = fresh }

-- whether there are no change records
abbrev pub has_no_notes : List Note → Bool
has_no_notes [] = true
has_no_notes (n ∷ ns) = false

-- the change creates or removes the whole document
abbrev pub IsDocumentChange : Change → Type 0
IsDocumentChange (CreateDocument root) = Unit {0}
IsDocumentChange RemoveDocument = Unit {0}
IsDocumentChange _ = ⊥
