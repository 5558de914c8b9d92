-- What a step leaves unchanged: every document but the one that is changed, and in that one every
-- element that the change isn't at or inside.
use Rattle.std.proofs.Common.{◌≡◌, ℕ, Bool, true, false, cond, List, [], ◌∷◌, ◌++◌, map, Option, None, Some, IsSomeAnd, refl, sym, ap, subst, ◌∙◌}
use Rattle.std.proofs.lemmas.Option.{same_Some}
use Rattle.xml_tree.specs.Tree.{Tree}
use Rattle.doc_names.specs.NameEquality.{same_id}
use Rattle.doc_names.specs.Usages.{usage_of}
use Rattle.doc_names.specs.declared.doc_id.DocId.{DocId}
use Rattle.doc_names.proofs.SameIds.{id_self}
use Rattle.edit_ops.specs.Changes.{FitsTree, edited}
use Rattle.edit_ops.specs.MovedPaths.{KeepsOtherElements}
use Rattle.edit_ops.specs.Notes.{note_of}
use Rattle.edit_ops.specs.declared.change.Change.{Change}
use Rattle.edit_ops.specs.declared.edit.Edit.{Edit}
use Rattle.edit_ops.proofs.MoveLaws.{others_stay}
use Rattle.xcap_laws.specs.UnchangedAncestors.{KeepsAncestors}
use Rattle.xcap_laws.proofs.Ancestors.{ancestors_stay}
use Rattle.http_wire.specs.declared.request.Request.{Request}
use Rattle.reply_text.specs.ReplyHeads.{SentReply}
use Rattle.request_checks.specs.Methods.{method_of}
use Rattle.request_checks.specs.declared.method.Method.{Method}
use Rattle.store_core.specs.Contents.{Represents, StoredDocument, StoreContents as Content}
use Rattle.store_core.specs.DocumentChanges.{ChangeKind, Makes, Edits, Removes, change_kind, state_after_by_kind, contents_after, find_document, document_id, stored_document_after, stored_id, without_document}
use Rattle.store_core.specs.ChangePreconditions.{MayRequest, MayRequestByKind, MayBeDocumentFor}
use Rattle.store_core.specs.State.{Document, State, new_document, document_after}
use Rattle.store_core.specs.ValidStates.{IsValidState}
use Rattle.store_core.proofs.HeldAfter.{by_act, edited_there, removed_there}
use Rattle.store_core.proofs.SoundHeld.{AllSound, all_sound}
use Rattle.xcap_machine.specs.Answers.{Answer, MadeChange}
use Rattle.xcap_machine.specs.Machine.{ContentStep, Step, answer_with_edit, change_from_edit}
use Rattle.xcap_machine.proofs.Steps.{made_change}
use Rattle.xcap_machine.proofs.Ways.{Way, changes, stays, way_of}

-- ---- all other documents

module _ (id : DocId) where
  abbrev others : List Document → List Document
  others ds = without_document document_id ds id

  others_edited : (f : Document → Document) → ((d : Document) → (f d).id ≡ d.id) → (ds : List Document) → others (map (λ d. cond (same_id id d.id) (f d) d) ds) ≡ others ds
  others_edited f keeps [] = refl
  others_edited f keeps (d ∷ ds) = by (same_id id d.id) refl (others_edited f keeps ds)
    where
      by : (b : Bool) → same_id id d.id ≡ b → others (map (λ e. cond (same_id id e.id) (f e) e) ds) ≡ others ds → others (map (λ e. cond (same_id id e.id) (f e) e) (d ∷ ds)) ≡ others (d ∷ ds)
      by true e rest = let here : same_id id (f d).id ≡ true = ap (λ (x : DocId). same_id id x) (keeps d) ∙ e in rw e (rw here rest)
      by false e rest = rw e (rw e (ap (λ (l : List Document). d ∷ l) rest))

  others_added : (ds : List Document) (new : Document) → same_id id new.id ≡ true → others (ds ++ new ∷ []) ≡ others ds
  others_added [] new own = rw own refl
  others_added (d ∷ ds) new own = by (same_id id d.id) refl (others_added ds new own)
    where
      by : (b : Bool) → same_id id d.id ≡ b → others (ds ++ new ∷ []) ≡ others ds → others ((d ∷ ds) ++ new ∷ []) ≡ others (d ∷ ds)
      by true e rest = rw e rest
      by false e rest = rw e (ap (λ (l : List Document). d ∷ l) rest)

  others_again : (ds : List Document) → others (others ds) ≡ others ds
  others_again [] = refl
  others_again (d ∷ ds) = by (same_id id d.id) refl (others_again ds)
    where
      by : (b : Bool) → same_id id d.id ≡ b → others (others ds) ≡ others ds → others (others (d ∷ ds)) ≡ others (d ∷ ds)
      by true e rest = rw e rest
      by false e rest = rw e (rw e (ap (λ (l : List Document). d ∷ l) rest))

  others_after : (m : State) (change : Change) (act : ChangeKind) → others (state_after_by_kind m id change act).documents ≡ others m.documents
  others_after m change (Makes root) = others_added m.documents (new_document id m.next root) (id_self id)
  others_after m change Edits = others_edited (λ d. document_after m.next d (note_of d.now.tag m.next d.now.tree change)) (λ d. refl) m.documents
  others_after m change Removes = others_again m.documents

pub other_documents_stay : (root : List ℕ) (m next : State) (request : Request) (reply : SentReply) (e : Edit) → Step root m request reply next (Some e)
    → without_document document_id next.documents e.doc ≡ without_document document_id m.documents e.doc
other_documents_stay root m next request reply e s =
    ap (λ (x : State). without_document document_id x.documents e.doc) s.goes_on ∙ others_after e.doc m e.note.change (change_kind e.note.change)

-- ---- the rest of the document

module _ (c : Content) (id : DocId) (change : Change) (before after : StoredDocument) (was : find_document stored_id c.documents id ≡ Some before) (is : find_document stored_id (contents_after c id change).documents id ≡ Some after) where
  abbrev IsChanged : Type 0
  IsChanged = FitsTree before.tree change × (after.tree ≡ edited before.tree change)

  rest_by : (act : ChangeKind) → change_kind change ≡ act → MayRequestByKind c id change act → IsChanged
  rest_by (Makes root) acts asks = let no : None ≡ Some before = sym asks.0 ∙ was in cc
  rest_by Edits acts asks =
      let P : StoredDocument → Type 0 = λ e. FitsTree e.tree change × MayBeDocumentFor (usage_of e.id.auid) (edited e.tree change) in
      let fits : P before = subst (λ (o : Option StoredDocument). IsSomeAnd o P) was asks in
      let same : after ≡ stored_document_after c.next change before = same_Some after (stored_document_after c.next change before) (sym is ∙ edited_there c id change before acts was) in
      (fits.0, ap (λ (h : StoredDocument). h.tree) same)
  rest_by Removes acts asks =
      let gone : find_document stored_id (contents_after c id change).documents id ≡ None = ap (λ (x : Content). find_document stored_id x.documents id) (sym (by_act c id change Removes acts)) ∙ removed_there c id in
      let no : None ≡ Some after = sym gone ∙ is in
      cc

module _ (root : List ℕ) (c : Content) (request : Request) (reply : SentReply) (e : Edit) where
  asks_by : (method : Method) → Way method request.closes c (answer_with_edit reply (Some e)) → AllSound c → MayRequest c e.doc e.note.change
  asks_by method (stays same tells closes is) all = let z : Some (change_from_edit e) ≡ None = ap (λ (a : Answer). a.made) is in cc
  asks_by method (changes same tells closes id change note next asks made is) all =
      let so : change_from_edit e ≡ (id, note) = same_Some (change_from_edit e) (id, note) (ap (λ (a : Answer). a.made) is) in
      let of_change : e.note.change ≡ change = ap (λ (x : MadeChange). x.1.change) so ∙ made_change c id change note next made in
      let of_document : e.doc ≡ id = ap (λ (x : MadeChange). x.0) so in
      subst (λ (d : DocId). MayRequest c d e.note.change) (sym of_document) (subst (λ (x : Change). MayRequest c id x) (sym of_change) (asks all))

pub document_changed : (root : List ℕ) (c next : Content) (request : Request) (reply : SentReply) (e : Edit) (m : State) → IsValidState m → Represents c m → ContentStep root c request reply next (Some e)
    → (before after : StoredDocument) → find_document stored_id c.documents e.doc ≡ Some before → find_document stored_id next.documents e.doc ≡ Some after
    → FitsTree before.tree e.note.change × (after.tree ≡ edited before.tree e.note.change)
document_changed root c next request reply e m kept stands does before after was is =
    let asks = asks_by root c request reply e (method_of request.method) (way_of root c request (answer_with_edit reply (Some e)) does.answers) (all_sound c m stands kept) in
    let here : find_document stored_id (contents_after c e.doc e.note.change).documents e.doc ≡ Some after = ap (λ (x : Content). find_document stored_id x.documents e.doc) (sym does.goes_on) ∙ is in
    rest_by c e.doc e.note.change before after was here (change_kind e.note.change) refl asks

pub changed_tree : (root : List ℕ) (c next : Content) (request : Request) (reply : SentReply) (e : Edit) (m : State) → IsValidState m → Represents c m → ContentStep root c request reply next (Some e)
    → (before after : StoredDocument) → find_document stored_id c.documents e.doc ≡ Some before → find_document stored_id next.documents e.doc ≡ Some after → after.tree ≡ edited before.tree e.note.change
changed_tree root c next request reply e m kept stands does before after was is = (document_changed root c next request reply e m kept stands does before after was is).1

pub elements_beside_stay : (root : List ℕ) (c next : Content) (request : Request) (reply : SentReply) (e : Edit) (m : State) → IsValidState m → Represents c m → ContentStep root c request reply next (Some e)
    → (before after : StoredDocument) → find_document stored_id c.documents e.doc ≡ Some before → find_document stored_id next.documents e.doc ≡ Some after → KeepsOtherElements before.tree e.note.change after.tree
elements_beside_stay root c next request reply e m kept stands does before after was is =
    let d = document_changed root c next request reply e m kept stands does before after was is in
    subst (λ (t : Tree). KeepsOtherElements before.tree e.note.change t) (sym d.1) (others_stay before.tree e.note.change d.0)

pub elements_around_stay : (root : List ℕ) (c next : Content) (request : Request) (reply : SentReply) (e : Edit) (m : State) → IsValidState m → Represents c m → ContentStep root c request reply next (Some e)
    → (before after : StoredDocument) → find_document stored_id c.documents e.doc ≡ Some before → find_document stored_id next.documents e.doc ≡ Some after → KeepsAncestors before.tree e.note.change after.tree
elements_around_stay root c next request reply e m kept stands does before after was is =
    let d = document_changed root c next request reply e m kept stands does before after was is in
    subst (λ (t : Tree). KeepsAncestors before.tree e.note.change t) (sym d.1) (ancestors_stay before.tree e.note.change d.0)
