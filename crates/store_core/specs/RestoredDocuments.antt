-- What a document does to a state and to a store into which it is put again, with an etag that it
-- had before. RFC 4825, section 8.5, defines etags; snapshots of a state are the project's own.
use Rattle.std.specs.Prelude.{◌≡◌, Bool, true, false, [], ◌∷◌, ◌++◌}
use Rattle.std.specs.List.{AllByRecursion}
use Rattle.store_core.specs.State.{Document, State}
use Rattle.store_core.specs.Contents.{Represents, StoreContents, stored_document}
use Rattle.store_core.specs.ValidStates.{IsValidState}

-- no document has a retained change record
abbrev pub HasNoRecords : StoreContents → Type 0
HasNoRecords c = AllByRecursion (λ h. h.notes ≡ []) c.documents

-- the state with one document more, the same next number and the same limits
abbrev pub state_with : Document → State → State
state_with d m = record m { documents = m.documents ++ d ∷ [] }

-- the contents with it
abbrev pub contents_with : Document → StoreContents → StoreContents
contents_with d c = record c { documents = c.documents ++ stored_document d ∷ [] }

-- The document was put into the store, and the state that the contents represent is valid with
-- it; or the contents are unchanged, and it wouldn't be.
abbrev pub RestoresDocument : StoreContents → Document → Bool → StoreContents → Type 0
RestoresDocument old d true new =
    (new ≡ contents_with d old)
    × ((m : State) → Represents old m → IsValidState m → IsValidState (state_with d m))
RestoresDocument old d false new =
    (new ≡ old)
    × ((m : State) → Represents old m → IsValidState m → ¬ (IsValidState (state_with d m)))
