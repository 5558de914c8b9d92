-- A store's contents as a view of a state: of each document the present tree and etag, and the
-- retained change records; and the limits.
use Rattle.std.specs.Prelude.{◌≡◌, ℕ, List, [], map}
use Rattle.xml_tree.specs.Tree.{Tree}
use Rattle.doc_names.specs.declared.doc_id.DocId.{DocId}
use Rattle.edit_ops.specs.Notes.{Note}
use Rattle.store_core.specs.declared.limits.Limits.{Limits}
use Rattle.store_core.specs.State.{Document, State, default_limits, notes, retained_notes}

-- a stored document: its name, its present etag and tree, and its retained change records
pub record StoredDocument : Type 0 where
  pub id : DocId
  pub tag : ℕ
  pub tree : Tree
  pub notes : List Note

-- the contents: the documents in the order of their creation, the next number and the limits
pub record StoreContents : Type 0 where
  pub documents : List StoredDocument
  pub next : ℕ
  pub limits : Limits

abbrev pub stored_document : Document → StoredDocument
stored_document d =
    record { id = d.id; tag = d.now.tag; tree = d.now.tree; notes = retained_notes (notes d) }

-- the contents that represent a state
abbrev pub contents_of : State → StoreContents
contents_of m =
    record { documents = map stored_document m.documents; next = m.next; limits = m.limits }

-- the contents without documents, under these limits
abbrev pub first_contents_within : Limits → ℕ → StoreContents
first_contents_within limits first = record { documents = []; next = first; limits = limits }

-- the contents without documents, under the default limits
abbrev pub first_contents : ℕ → StoreContents
first_contents first = first_contents_within default_limits first

-- contents that represent the state
abbrev pub Represents : StoreContents → State → Type 0
Represents content state = content ≡ contents_of state

-- ---- what is stored now

abbrev pub stored_now : StoredDocument → DocId × ℕ × Tree
stored_now h = (h.id, h.tag, h.tree)

abbrev pub document_now : Document → DocId × ℕ × Tree
document_now d = (d.id, d.now.tag, d.now.tree)

-- The contents have the documents of the state, each with its present etag and tree, its next
-- number and its limits; which change records they retain is left open.
pub record HasDocumentsOf (content : StoreContents) (state : State) : Type 0 where
  pub documents : map stored_now content.documents ≡ map document_now state.documents
  pub next : content.next ≡ state.next
  pub limits : content.limits ≡ state.limits
