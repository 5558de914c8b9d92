-- Each document of a store that represents a valid state may be a document of its application
-- usage.
use Rattle.std.proofs.Common.{◌≡◌, ℕ, Bool, true, false, cond, List, [], ◌∷◌, find, map, Some, sym, subst}
use Rattle.std.specs.List.{AllByRecursion}
use Rattle.doc_names.specs.NameEquality.{same_id}
use Rattle.doc_names.specs.Usages.{usage_of}
use Rattle.doc_names.specs.declared.doc_id.DocId.{DocId}
use Rattle.store_core.specs.DocumentChanges.{find_document, stored_id}
use Rattle.store_core.specs.Contents.{StoredDocument, Represents, stored_document, StoreContents as Content}
use Rattle.store_core.specs.ValidStates.{IsValidHistory, IsSoundDocumentFor, IsValidState}
use Rattle.store_core.specs.State.{Document, State}
use Rattle.store_core.proofs.ChangePremises.{found-name}

-- each stored document may be a document of its application usage
abbrev pub AllSound : Content → Type 0
AllSound c = AllByRecursion (λ h. IsSoundDocumentFor (usage_of h.id.auid) h.tree) c.documents

sound_found : (id : DocId) (ds : List StoredDocument) (h : StoredDocument) → AllByRecursion (λ d. IsSoundDocumentFor (usage_of d.id.auid) d.tree) ds → find (λ d. same_id id d.id) ds ≡ Some h → IsSoundDocumentFor (usage_of h.id.auid) h.tree
sound_found id [] h all is = cc
sound_found id (d ∷ ds) h all is = by (same_id id d.id) is (sound_found id ds h all.1)
  where
    by : (b : Bool) → cond b (Some d) (find (λ e. same_id id e.id) ds) ≡ Some h → (find (λ e. same_id id e.id) ds ≡ Some h → IsSoundDocumentFor (usage_of h.id.auid) h.tree) → IsSoundDocumentFor (usage_of h.id.auid) h.tree
    by true found below = let same : d ≡ h = cc in subst (λ (e : StoredDocument). IsSoundDocumentFor (usage_of e.id.auid) e.tree) same all.0
    by false found below = below found

each_held : (next : ℕ) (ds : List Document) → AllByRecursion (IsValidHistory next) ds → AllByRecursion (λ h. IsSoundDocumentFor (usage_of h.id.auid) h.tree) (map stored_document ds)
each_held next [] all = tt
each_held next (d ∷ ds) all = (all.0.sound.0, each_held next ds all.1)

-- so it is where the store represents a valid state
pub all_sound : (c : Content) (m : State) → Represents c m → IsValidState m → AllSound c
all_sound c m stands kept = subst AllSound (sym stands) (each_held m.next m.documents kept.documents)

-- the one of a name
pub sound_held : (c : Content) (id : DocId) (h : StoredDocument) → find_document stored_id c.documents id ≡ Some h → AllSound c → IsSoundDocumentFor (usage_of id.auid) h.tree
sound_held c id h found all =
    subst (λ (d : DocId). IsSoundDocumentFor (usage_of d.auid) h.tree) (sym (found-name c id h found)) (sound_found id c.documents h all found)
