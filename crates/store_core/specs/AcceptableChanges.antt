-- The changes that suit a state: the document exists or doesn't, as the change needs, its new tree
-- may be a document, and all documents together stay within the limits and have each service
-- address once.
use Rattle.std.specs.Prelude.{◌≡◌, ◌≤◌, length, sum_by, None, IsSome, IsSomeAnd}
use Rattle.usage_docs.specs.Services.{document_len}
use Rattle.doc_names.specs.DocIds.{IsAddressable}
use Rattle.doc_names.specs.declared.doc_id.DocId.{DocId}
use Rattle.edit_ops.specs.Changes.{FitsTree, edited}
use Rattle.edit_ops.specs.declared.change.Change.{Change}
use Rattle.store_core.specs.State.{State}
use Rattle.store_core.specs.ValidStates.{AreDistinct, IsSoundDocumentFor, IsUserHome}
use Rattle.store_core.specs.ValidStates.{AreHomesWithinLimits, all_addresses}
use Rattle.doc_names.specs.Usages.{usage_of}
use Rattle.store_core.specs.DocumentChanges.{ChangeKind, Makes, Edits, Removes, change_kind}
use Rattle.store_core.specs.DocumentChanges.{state_after, find_document}
use Rattle.store_core.specs.DocumentChanges.{document_id}

abbrev pub IsAcceptableByKind : State → DocId → Change → ChangeKind → Type 0
IsAcceptableByKind m id change (Makes root) =
    (find_document document_id m.documents id ≡ None) × IsAddressable id × IsUserHome id.home
    × IsSoundDocumentFor (usage_of id.auid) root
IsAcceptableByKind m id change Edits =
    IsSomeAnd (find_document document_id m.documents id) (λ d.
    FitsTree d.now.tree change × IsSoundDocumentFor (usage_of d.id.auid) (edited d.now.tree change))
IsAcceptableByKind m id change Removes = IsSome (find_document document_id m.documents id)

pub record IsAcceptable (m : State) (id : DocId) (change : Change) : Type 0 where
  pub act : IsAcceptableByKind m id change (change_kind change)
  pub services : AreDistinct (all_addresses (state_after m id change).documents)
  pub few : length (state_after m id change).documents ≤ m.limits.documents
  pub room : sum_by (λ d. document_len d.now.tree) (state_after m id change).documents
      ≤ m.limits.bytes
  pub homes : AreHomesWithinLimits m.limits (state_after m id change).documents
