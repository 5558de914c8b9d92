-- The state of the abstract machine: every document with all its versions, and the limits. RFC
-- 4825, section 8.5: each change gives a document a new entity tag.
use Rattle.std.specs.Prelude.{ℕ, Bool, ◌&&◌, nat_le, List, [], ◌∷◌, length, reverse, sum_by, Option}
use Rattle.std.specs.Prelude.{None, Some, if◌then◌else◌, filter_map}
use Rattle.xml_tree.specs.Tree.{Tree}
use Rattle.doc_names.specs.declared.doc_id.DocId.{DocId}
use Rattle.edit_ops.specs.Changes.{edited}
use Rattle.edit_ops.specs.Notes.{Note}
use Rattle.edit_ops.specs.DiffOperations.{weight}
use Rattle.store_core.specs.declared.limits.Limits.{Limits}
use Rattle.store_core.specs.declared.limits.TheConstants.{DEFAULT_BYTES, DEFAULT_DOCUMENTS}
use Rattle.store_core.specs.declared.limits.TheConstants.{MAX_NOTES, MAX_WEIGHT}

-- a version: its etag, its tree, and the record of the change that made it from the version before
pub record Version : Type 0 where
  pub tag : ℕ
  pub tree : Tree
  pub note : Option Note

-- a document: its name, its present version, and the earlier ones, newest first
pub record Document : Type 0 where
  pub id : DocId
  pub now : Version
  pub earlier : List Version

-- the documents in the order of their creation, the number that the next change gets, and the
-- limits, which no change changes
pub record State : Type 0 where
  pub documents : List Document
  pub next : ℕ
  pub limits : Limits

-- the limits where no others are given
abbrev pub default_limits : Limits
default_limits =
    record {
      documents = DEFAULT_DOCUMENTS;
      bytes = DEFAULT_BYTES;
      home_documents = None;
      home_bytes = None;
    }

-- the state without documents, under these limits
abbrev pub first_state_within : Limits → ℕ → State
first_state_within limits first = record { documents = []; next = first; limits = limits }

-- the state without documents, under the default limits
abbrev pub first_state : ℕ → State
first_state first = first_state_within default_limits first

-- all versions of a document, newest first
abbrev pub versions : Document → List Version
versions d = d.now ∷ d.earlier

-- its change records, oldest first
abbrev pub notes : Document → List Note
notes d = reverse (filter_map (λ v. v.note) (versions d))

-- ---- which records are retained, for subscribers with an older version

-- no more items than records may be retained, and no heavier together than these may be
abbrev pub is_within_retention : {A : Type 0} → (A → ℕ) → List A → Bool
is_within_retention weight xs = nat_le (length xs) MAX_NOTES && nat_le (sum_by weight xs) MAX_WEIGHT

-- the longest end of the list that is small; the last item is always in it
abbrev pub longest_retained_end : {A : Type 0} → (A → ℕ) → List A → List A
longest_retained_end weight [] = []
longest_retained_end weight (x ∷ []) = x ∷ []
longest_retained_end weight (x ∷ y ∷ xs) =
    if is_within_retention weight (x ∷ y ∷ xs) then x ∷ y ∷ xs
    else longest_retained_end weight (y ∷ xs)

-- the retained records; a record weighs as many bytes as its operation's text has
abbrev pub retained_notes : List Note → List Note
retained_notes ns = longest_retained_end weight ns

-- ---- a change of a document

-- the document after a change of its tree
abbrev pub document_after : ℕ → Document → Note → Document
document_after tag d n =
    record {
      id = d.id;
      now = record { tag = tag; tree = edited d.now.tree n.change; note = Some n };
      earlier = versions d;
    }

-- a document that has one version
abbrev pub new_document : DocId → ℕ → Tree → Document
new_document id tag root =
    record { id = id; now = record { tag = tag; tree = root; note = None }; earlier = [] }
