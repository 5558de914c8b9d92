-- A version of a document, and the change records from it to the present version. RFC 5874,
-- section 3: changes between two entity tags.
use Rattle.std.specs.Prelude.{◌≡◌, ℕ, ◌<◌, ◌≤◌, List, [], ◌∷◌, Option, Some, length, slice_get}
use Rattle.std.specs.List.{AllByRecursion}
use Rattle.xml_tree.specs.Tree.{Tree}
use Rattle.doc_names.specs.declared.doc_id.DocId.{DocId}
use Rattle.doc_names.specs.declared.usages.Usage.{Usage}
use Rattle.doc_names.specs.Usages.{usage_of}
use Rattle.edit_ops.specs.Changes.{edited}
use Rattle.edit_ops.specs.Notes.{AreNotesOf, Note, tag_after, tree_after}
use Rattle.store_core.specs.DocumentChanges.{find_document, document_id}
use Rattle.store_core.specs.ValidStates.{IsSoundDocumentFor}
use Rattle.store_core.specs.declared.limits.TheConstants.{MAX_NOTES}
use Rattle.store_core.specs.State.{Document, State, Version, versions}

-- the tree, and the tree after each record, may be a document of the application usage
abbrev pub TreesAreSound : Option Usage → Tree → List Note → Type 0
TreesAreSound usage t [] = IsSoundDocumentFor usage t
TreesAreSound usage t (n ∷ ns) =
    IsSoundDocumentFor usage t × TreesAreSound usage (edited t n.change) ns

-- the records lead from the first version to the second, through sound trees, and have etags below
-- a bound
pub record RecordsLeadBetween (usage : Option Usage) (next : ℕ) (from : Version) (ns : List Note)
    (to : Version) : Type 0 where
  pub notes : AreNotesOf from.tag from.tree ns
  pub tree : tree_after from.tree ns ≡ to.tree
  pub tag : tag_after from.tag ns ≡ to.tag
  pub sound : TreesAreSound usage from.tree ns
  pub first : from.tag < next
  pub tags : AllByRecursion (λ n. n.next < next) ns

-- the document of this name has a version with this etag, from which the records lead to the
-- present one; there are at most `MAX_NOTES`
pub record AreRecordsSince (state : State) (id : DocId) (tag : ℕ) (ns : List Note) : Type 0 where
  pub document : Document
  pub there : find_document document_id state.documents id ≡ Some document
  pub from : Version
  pub number : ℕ
  pub is_version : slice_get (versions document) number ≡ Some from
  pub same_tag : from.tag ≡ tag
  pub leads : RecordsLeadBetween (usage_of document.id.auid) state.next from ns document.now
  pub few : length ns ≤ MAX_NOTES
