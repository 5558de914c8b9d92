-- What changes preserve of addresses by keys in stored documents. RFC 4826, sections 3.4.5 and
-- 4.4.5, on the attributes that distinguish an element from its siblings.
use Rattle.std.specs.Prelude.{◌≡◌, Some}
use Rattle.doc_names.specs.Usages.{usage_of}
use Rattle.doc_names.specs.declared.doc_id.DocId.{DocId}
use Rattle.doc_names.specs.declared.usages.Usage.{Usage}
use Rattle.edit_ops.specs.Changes.{edited}
use Rattle.edit_ops.specs.declared.change.Change.{Change}
use Rattle.edit_rules.specs.KeyWrites.{KeepsKeyAddresses}
use Rattle.store_core.specs.DocumentChanges.{find_document, stored_id}
use Rattle.store_core.specs.Contents.{StoredDocument, StoreContents}

-- a change from contents to the next contents: if the document is stored in both and of this
-- application usage, it then has the edited tree, and the change preserves what the document's key
-- addresses select
abbrev pub ChangeKeepsKeyAddresses : StoreContents → DocId → Change → StoreContents → Type 0
ChangeKeepsKeyAddresses c id change next =
    (usage : Usage) (before after : StoredDocument) → usage_of id.auid ≡ Some usage
    → find_document stored_id c.documents id ≡ Some before
    → find_document stored_id next.documents id ≡ Some after
    → (after.tree ≡ edited before.tree change) × KeepsKeyAddresses usage before.tree change
