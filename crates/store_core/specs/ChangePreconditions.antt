-- What a caller of the store has to ensure of a change: a created document isn't stored yet, any
-- other change is one of a stored document, and the new tree may be a document. Lengths, counts
-- and service addresses are checked by the store.
use Rattle.std.specs.Prelude.{◌≡◌, ◌≤◌, [], Option, None, Some, IsSome, IsSomeAnd}
use Rattle.xml_tree.specs.Tree.{Tree, height}
use Rattle.xml_tree.specs.Proper.{IsProperTree}
use Rattle.xml_names.specs.declared.limits.TheConstants.{MAX_LEVELS}
use Rattle.usage_docs.specs.Validation.{HasFirstFault}
use Rattle.doc_names.specs.declared.usages.Usage.{Usage}
use Rattle.doc_names.specs.DocIds.{IsAddressable}
use Rattle.doc_names.specs.declared.doc_id.DocId.{DocId}
use Rattle.edit_ops.specs.Changes.{FitsTree, edited}
use Rattle.edit_ops.specs.declared.change.Change.{Change}
use Rattle.store_core.specs.ValidStates.{IsUserHome}
use Rattle.doc_names.specs.Usages.{usage_of}
use Rattle.store_core.specs.DocumentChanges.{ChangeKind, Makes, Edits, Removes, change_kind}
use Rattle.store_core.specs.DocumentChanges.{find_document}
use Rattle.store_core.specs.DocumentChanges.{stored_id}
use Rattle.store_core.specs.Contents.{StoreContents}

-- a tree that may be a document of the application usage, if it isn't too long
pub record MayBeDocument (usage : Usage) (t : Tree) : Type 0 where
  pub proper : IsProperTree [] t
  pub low : height t ≤ MAX_LEVELS
  pub faultless : HasFirstFault usage t None

abbrev pub MayBeDocumentFor : Option Usage → Tree → Type 0
MayBeDocumentFor None t = ⊥
MayBeDocumentFor (Some usage) t = MayBeDocument usage t

abbrev pub MayRequestByKind : StoreContents → DocId → Change → ChangeKind → Type 0
MayRequestByKind c id change (Makes root) =
    (find_document stored_id c.documents id ≡ None) × IsAddressable id × IsUserHome id.home
    × MayBeDocumentFor (usage_of id.auid) root
MayRequestByKind c id change Edits =
    IsSomeAnd (find_document stored_id c.documents id) (λ h.
    FitsTree h.tree change × MayBeDocumentFor (usage_of h.id.auid) (edited h.tree change))
MayRequestByKind c id change Removes = IsSome (find_document stored_id c.documents id)

abbrev pub MayRequest : StoreContents → DocId → Change → Type 0
MayRequest c id change = MayRequestByKind c id change (change_kind change)
