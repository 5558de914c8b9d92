-- Key addresses continue to select their elements through the changes that a store makes.
use Rattle.std.proofs.Common.{◌≡◌, [], Option, None, Some, IsSomeAnd, Ok, refl, sym, ap, subst, ◌∙◌}
use Rattle.std.proofs.lemmas.Option.{same_Some}
use Rattle.xml_tree.specs.Tree.{Tree}
use Rattle.xml_tree.specs.Proper.{IsProperTree}
use Rattle.usage_docs.specs.Validation.{HasFirstFault}
use Rattle.doc_names.specs.Usages.{usage_of}
use Rattle.doc_names.specs.declared.usages.Usage.{Usage}
use Rattle.doc_names.specs.declared.doc_id.DocId.{DocId}
use Rattle.edit_ops.specs.Changes.{FitsTree, edited}
use Rattle.edit_ops.specs.declared.change.Change.{Change}
use Rattle.edit_rules.specs.KeyAddresses.{IsProperWithUniqueKeys}
use Rattle.edit_rules.specs.KeyWrites.{KeepsKeyAddresses}
use Rattle.edit_rules.proofs.Stable.{after_change}
use Rattle.edit_ops.specs.Notes.{Note}
use Rattle.store_core.specs.ChangePreconditions.{MayRequest, MayRequestByKind, MayBeDocument, MayBeDocumentFor}
use Rattle.store_core.specs.DocumentChanges.{ChangeKind, Makes, Edits, Removes, change_kind, refusal_of, change_result, contents_after, find_document, stored_document_after, stored_id, note_for}
use Rattle.store_core.specs.Contents.{StoredDocument, Represents, StoreContents as Content}
use Rattle.xcap_machine.specs.KeyAddresses.{ChangeKeepsKeyAddresses}
use Rattle.store_core.specs.ValidStates.{IsSoundDocument, IsSoundDocumentFor, IsValidState}
use Rattle.store_core.specs.State.{State}
use Rattle.store_core.proofs.ChangePremises.{found-name}
use Rattle.store_core.proofs.HeldAfter.{by_act, edited_there, removed_there}
use Rattle.store_core.proofs.Keeps.{told-next}
use Rattle.store_core.proofs.SoundHeld.{AllSound, all_sound, sound_held}

-- a document without a fault has distinct keys
keyed : (usage : Usage) (t : Tree) → IsProperTree [] t → HasFirstFault usage t None → IsProperWithUniqueKeys usage t
keyed usage t proper faultless = record { unique = faultless.2; proper = proper }

-- ---- one change of one document

module _ (c : Content) (id : DocId) (change : Change) (usage : Usage) (before after : StoredDocument) where
  abbrev Stay : Type 0
  Stay = (after.tree ≡ edited before.tree change) × KeepsKeyAddresses usage before.tree change

  edit_stays : usage_of id.auid ≡ Some usage → find_document stored_id c.documents id ≡ Some before → find_document stored_id (contents_after c id change).documents id ≡ Some after
      → AllSound c → change_kind change ≡ Edits → MayRequestByKind c id change Edits → Stay
  edit_stays known held now all acts asks =
      let t = before.tree in
      let sound : IsSoundDocument usage t = subst (λ (u : Option Usage). IsSoundDocumentFor u t) known (sound_held c id before held all) in
      let P : StoredDocument → Type 0 = λ e. FitsTree e.tree change × MayBeDocumentFor (usage_of e.id.auid) (edited e.tree change) in
      let of_held : P before = subst (λ (o : Option StoredDocument). IsSomeAnd o P) held asks in
      let of_id : MayBeDocumentFor (usage_of id.auid) (edited t change) = subst (λ (d : DocId). MayBeDocumentFor (usage_of d.auid) (edited t change)) (sym (found-name c id before held)) of_held.1 in
      let may : MayBeDocument usage (edited t change) = subst (λ (u : Option Usage). MayBeDocumentFor u (edited t change)) known of_id in
      let same : after ≡ stored_document_after c.next change before = same_Some after (stored_document_after c.next change before) (sym now ∙ edited_there c id change before acts held) in (
        ap (λ (h : StoredDocument). h.tree) same,
        λ selector p q.
            after_change usage t change selector p q (keyed usage t sound.proper sound.faultless) of_held.0 (keyed usage (edited t change) may.proper may.faultless),
      )

  stays_by : (act : ChangeKind) → change_kind change ≡ act → usage_of id.auid ≡ Some usage → find_document stored_id c.documents id ≡ Some before → find_document stored_id (contents_after c id change).documents id ≡ Some after
      → AllSound c → MayRequestByKind c id change act → Stay
  stays_by (Makes root) is known held now all asks = let no : None ≡ Some before = sym asks.0 ∙ held in cc
  stays_by Edits is known held now all asks = edit_stays known held now all is asks
  stays_by Removes is known held now all asks =
      let gone : find_document stored_id (contents_after c id change).documents id ≡ None = ap (λ (x : Content). find_document stored_id x.documents id) (sym (by_act c id change Removes is)) ∙ removed_there c id in
      let no : None ≡ Some after = sym gone ∙ now in
      cc

-- ---- any change that may be asked for

pub asked_stays : (c : Content) (id : DocId) (change : Change) → AllSound c → MayRequest c id change → ChangeKeepsKeyAddresses c id change (contents_after c id change)
asked_stays c id change all asks = λ usage before after known held now. stays_by c id change usage before after (change_kind change) refl known held now all asks

pub change_stays : (c : Content) (m : State) (id : DocId) (change : Change) → Represents c m → IsValidState m → MayRequest c id change → ChangeKeepsKeyAddresses c id change (contents_after c id change)
change_stays c m id change stands kept asks = asked_stays c id change (all_sound c m stands kept) asks

pub made_stays : (c : Content) (m : State) (id : DocId) (change : Change) (note : Note) (next : Content) → Represents c m → IsValidState m → MayRequest c id change → change_result c id change ≡ Ok (note, next) → ChangeKeepsKeyAddresses c id change next
made_stays c m id change note next stands kept asks made =
    let found = find_document stored_id c.documents id in
    let same : contents_after c id change ≡ next = told-next (refusal_of c id change found (change_kind change)) (note_for c id change found) note (contents_after c id change) next made in
    subst (λ (x : Content). ChangeKeepsKeyAddresses c id change x) same (change_stays c m id change stands kept asks)
