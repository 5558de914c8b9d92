-- The state of a watched element since a known version. RFC 5874, section 3, names the element by
-- a selector and says whether it exists; RFC 4826, sections 3.4.5 and 4.4.5, name the attributes
-- that distinguish an element from its siblings.
use Rattle.std.specs.Prelude.{◌≡◌, ℕ, List, [], ◌⊎◌, Option, None, Some, Result, Err, MatchResult}
use Rattle.std.specs.Prelude.{encode_utf8_all}
use Rattle.xml_tree.specs.Tree.{Tree}
use Rattle.xml_tree.specs.Print.{document_print}
use Rattle.doc_names.specs.DocIds.{id_text}
use Rattle.doc_names.specs.Usages.{usage_of}
use Rattle.doc_names.specs.declared.doc_id.DocId.{DocId}
use Rattle.doc_names.specs.declared.usages.Usage.{Usage}
use Rattle.node_select.specs.Selection.{SelectsPath}
use Rattle.node_select.specs.declared.selector.Selector.{Selector}
use Rattle.edit_ops.specs.Notes.{Note}
use Rattle.patch_rules.specs.Notices.{candidate_prefix, diff}
use Rattle.element_watch.specs.ElementNotices.{element_notice}
use Rattle.element_watch.specs.declared.element_states.ElementState.{ElementState}
use Rattle.element_watch.specs.declared.element_states.ElementState.TheVariants.{Unchanged, Exists}
use Rattle.element_watch.specs.declared.element_states.ElementState.TheVariants.{Missing}
use Rattle.edit_rules.specs.KeyAddresses.{IsKeyAddressOf}
use Rattle.store_core.specs.DocumentChanges.{find_document, stored_id}
use Rattle.store_core.specs.Contents.{StoredDocument, StoreContents}
use Rattle.store_core.specs.Since.{ChangesSince, Gone, Unknown, ReportedChanges}
use Rattle.element_watch.specs.TouchedElements.{MovesUntouchedThrough}
use Rattle.element_watch.specs.declared.fault.ElementFault.{ElementFault}
use Rattle.element_watch.specs.declared.fault.ElementFault.TheVariants as faults

-- ---- the element in the present tree

-- the selector's steps select something
abbrev pub SelectsSome : Selector → Tree → Type 0
SelectsSome selector t = (p : List ℕ) × SelectsPath selector.steps t p

-- the selector is a key address that selects the element at the path, to which the change records
-- move a former path that none touches on the way
pub record IsUntouchedAt (u : Usage) (t : Tree) (selector : Selector) (ns : List Note)
    (p : List ℕ) : Type 0 where
  pub selects : SelectsPath selector.steps t p
  pub by_keys : IsKeyAddressOf u t selector p
  pub former : List ℕ
  pub passes : MovesUntouchedThrough former ns p

-- an application usage that stores no documents has no elements with keys
abbrev pub IsUntouched : Option Usage → Tree → Selector → List Note → Type 0
IsUntouched None t selector ns = ⊥
IsUntouched (Some u) t selector ns = (p : List ℕ) × IsUntouchedAt u t selector ns p

-- nothing is to be reported: no change was made since, or none that touches the element
abbrev pub HasNothingToReport : Option Usage → Tree → Selector → List Note → Type 0
HasNothingToReport u t selector ns = (ns ≡ []) ⊎ IsUntouched u t selector ns

-- the state of the element: unchanged; or that it may have changed, and whether the selector
-- selects something now
abbrev pub IsElementState : Option Usage → Tree → Selector → List Note → ElementState → Type 0
IsElementState u t selector ns Unchanged = HasNothingToReport u t selector ns
IsElementState u t selector ns Exists =
    (HasNothingToReport u t selector ns → ⊥) × SelectsSome selector t
IsElementState u t selector ns Missing =
    (HasNothingToReport u t selector ns → ⊥) × (SelectsSome selector t → ⊥)

-- ---- the diff document

-- a watched element: its document, its selector, and that selector as it was written
pub record WatchedElement : Type 0 where
  pub doc : DocId
  pub selector : Selector
  pub raw : List ℕ

-- the xcap-diff document, under this XCAP root, about an element of a stored document, with the
-- change records since the known version
pub record IsElementNotice (root : List ℕ) (watched : WatchedElement) (c : StoreContents)
    (ns : List Note) (notice : Tree) : Type 0 where
  pub held : StoredDocument
  pub there : find_document stored_id c.documents watched.doc ≡ Some held
  pub state : ElementState
  pub is_state : IsElementState (usage_of watched.doc.auid) held.tree watched.selector ns state
  pub told : notice ≡ element_notice root (id_text watched.doc) watched.raw state

-- the diff document that reports nothing
abbrev pub silent_notice : List ℕ → Tree
silent_notice root = diff (candidate_prefix 0) root []

-- the text of a diff document
abbrev pub IsNoticeText : List ℕ → WatchedElement → StoreContents → List Note → List ℕ → Type 0
IsNoticeText root watched c ns text =
    (notice : Tree)
    × (IsElementNotice root watched c ns notice × (text ≡ encode_utf8_all (document_print notice)))

-- by what became of the document since the known version: it is gone, or the version isn't known
-- any more; or the text of the diff document, unless out of memory
abbrev pub IsNoticeAnswer : List ℕ → WatchedElement → StoreContents → ChangesSince
    → Result (List ℕ) ElementFault → Type 0
IsNoticeAnswer root watched c Gone r = r ≡ Err faults.Gone
IsNoticeAnswer root watched c Unknown r = r ≡ Err faults.Unknown
IsNoticeAnswer root watched c (ReportedChanges ns) r =
    MatchResult r (IsNoticeText root watched c ns) (λ e. e ≡ faults.NoMemory)
