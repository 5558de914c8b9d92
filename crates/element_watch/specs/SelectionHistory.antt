-- What a key address selects in each version of a document since a known one.
use Rattle.std.specs.Prelude.{◌≡◌, ℕ, ◌≤◌, List, take, reverse, Some, IsSomeAnd, slice_get}
use Rattle.std.specs.Prelude.{filter_map}
use Rattle.xml_tree.specs.Tree.{Tree, at}
use Rattle.node_select.specs.Selection.{SelectsPath}
use Rattle.node_select.specs.declared.selector.Step.{Step}
use Rattle.edit_ops.specs.Notes.{Note}
use Rattle.doc_names.specs.declared.doc_id.DocId.{DocId}
use Rattle.store_core.specs.DocumentChanges.{find_document, document_id}
use Rattle.store_core.specs.State.{Document, State, Version, versions}
use Rattle.element_watch.specs.TouchedElements.{moved_through}

-- the records of the changes after the version of this number, counted from 0 for the present one;
-- oldest first
abbrev pub notes_after : ℕ → List Version → List Note
notes_after number vs = reverse (filter_map (λ v. v.note) (take number vs))

-- in the tree the steps select the element e, at a path that the change records move to p
pub record SelectsElement (steps : List Step) (e t : Tree) (ns : List Note)
    (p : List ℕ) : Type 0 where
  pub path : List ℕ
  pub selects : SelectsPath steps t path
  pub there : at path t ≡ Some e
  pub moves : moved_through path ns ≡ Some p

-- in the version of this number, and in each later one, the steps select the element that is at p
-- in the present one
abbrev pub SelectsElementFrom : ℕ → List Step → Document → List ℕ → Type 0
SelectsElementFrom number steps d p =
    IsSomeAnd (at p d.now.tree) (λ e.
    (k : ℕ) (v : Version) → k ≤ number → slice_get (versions d) k ≡ Some v
    → SelectsElement steps e v.tree (notes_after k (versions d)) p)

-- the document has a version with this etag, and since then the steps select in each version the
-- element that is at p in the present one
pub record SelectsElementSince (m : State) (id : DocId) (tag : ℕ) (steps : List Step)
    (p : List ℕ) : Type 0 where
  pub document : Document
  pub there : find_document document_id m.documents id ≡ Some document
  pub from : Version
  pub number : ℕ
  pub is_version : slice_get (versions document) number ≡ Some from
  pub same_tag : from.tag ≡ tag
  pub finds : SelectsElementFrom number steps document p
