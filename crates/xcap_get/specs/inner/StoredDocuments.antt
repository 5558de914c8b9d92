-- Stored documents, in the terms of the functions that reply with their print.
use Rattle.std.specs.Prelude.{◌≡◌, ℕ, Some}
use Rattle.doc_names.specs.declared.doc_id.DocId.{DocId}
use Rattle.store_core.specs.Contents.{StoreContents}
use Rattle.xml_tree.specs.Tree.{Tree}
use Rattle.xcap_machine.specs.Resources.{IsResourceOf, there, version_of}

-- a document is stored with this tag, and its name leads to it
abbrev pub IsStoredWithTag : StoreContents → DocId → ℕ → Type 0
IsStoredWithTag c id tag =
    (t : Tree) × (version_of c id ≡ Some (t, tag)) × IsResourceOf c id (there t tag)
