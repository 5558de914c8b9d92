-- A tree that is put, a document that is deleted, and a planned change of a node are changes that
-- the store may be asked for.
use Rattle.std.proofs.Common.{◌≡◌, ℕ, true, List, [], is_some, Option, None, Some, option_map, IsSomeAnd, refl, sym, ap, subst}
use Rattle.xml_tree.specs.Tree.{Tree}
use Rattle.doc_names.specs.DocIds.{IsAddressable}
use Rattle.doc_names.specs.Usages.{usage_of}
use Rattle.doc_names.specs.declared.usages.Usage.{Usage}
use Rattle.doc_names.specs.declared.doc_id.Auid.{Auid}
use Rattle.doc_names.specs.declared.doc_id.DocId.{DocId}
use Rattle.doc_names.specs.declared.doc_id.Home.{Home}
use Rattle.doc_names.specs.declared.doc_id.Home.TheVariants.{Global, User}
use Rattle.edit_ops.specs.Changes.{FitsTree, edited}
use Rattle.usage_docs.specs.Validation.{HasFirstFault}
use Rattle.edit_ops.specs.declared.change.Change.{Change}
use Rattle.edit_ops.specs.declared.change.Change.TheVariants.{CreateDocument, Insert, Replace, Remove, SetAttr, DropAttr, RemoveDocument}
use Rattle.edit_rules.specs.CheckedChanges.{LeavesProperTree}
use Rattle.http_wire.specs.declared.request.Field.{Field}
use Rattle.request_checks.specs.Rights.{is_allowed}
use Rattle.store_core.specs.ChangePreconditions.{MayRequest, MayRequestByKind, MayBeDocument, MayBeDocumentFor}
use Rattle.store_core.specs.DocumentChanges.{ChangeKind, Edits, change_kind, find_document, stored_id}
use Rattle.store_core.specs.Contents.{StoredDocument, StoreContents as Content}
use Rattle.store_core.specs.ValidStates.{IsSoundDocument, IsSoundDocumentFor, IsUserHome}
use Rattle.store_core.proofs.ChangePremises.{found-name}
use Rattle.store_core.proofs.SoundHeld.{AllSound, sound_held}
use Rattle.xcap_machine.specs.Resources.{version_of}
use Rattle.xcap_machine.specs.DocumentWrites.{put_change}

-- the version of a stored document, or of none
abbrev seen : Option StoredDocument → Option (Tree × ℕ)
seen o = option_map {U = Tree × ℕ} (λ (h : StoredDocument). (h.tree, h.tag)) o

put_to : (c : Content) (id : DocId) (t : Tree) → IsAddressable id → IsUserHome id.home → MayBeDocumentFor (usage_of id.auid) t → (held : Option StoredDocument) → find_document stored_id c.documents id ≡ held → MayRequest c id (put_change (is_some (seen held)) t)
put_to c id t readable users may None is = (is, readable, users, may)
put_to c id t readable users may (Some h) is =
    let P : StoredDocument → Type 0 = λ e. FitsTree e.tree (Replace [] t) × MayBeDocumentFor (usage_of e.id.auid) (edited e.tree (Replace [] t)) in
    let may_here : P h = (refl, subst (λ (d : DocId). MayBeDocumentFor (usage_of d.auid) t) (found-name c id h is) may) in
    subst (λ (o : Option StoredDocument). IsSomeAnd o P) (sym is) may_here

pub asks_to_put : (c : Content) (id : DocId) (t : Tree) → IsAddressable id → IsUserHome id.home → MayBeDocumentFor (usage_of id.auid) t → MayRequest c id (put_change (is_some (version_of c id)) t)
asks_to_put c id t readable users may = put_to c id t readable users may (find_document stored_id c.documents id) refl

some_seen : (held : Option StoredDocument) (t : Tree) (tag : ℕ) → ◌≡◌ {A = Option (Tree × ℕ)} (seen held) (Some (t, tag)) → is_some held ≡ true
some_seen None t tag h = cc
some_seen (Some held) t tag h = refl

pub asks_to_delete : (c : Content) (id : DocId) (t : Tree) (tag : ℕ) → ◌≡◌ {A = Option (Tree × ℕ)} (version_of c id) (Some (t, tag)) → MayRequest c id RemoveDocument
asks_to_delete c id t tag is = some_seen (find_document stored_id c.documents id) t tag is

-- ---- a planned change

seen_is : (o : Option StoredDocument) (t : Tree) (tag : ℕ) → ◌≡◌ {A = Option (Tree × ℕ)} (seen o) (Some (t, tag)) → (h : StoredDocument) × (o ≡ Some h) × (h.tree ≡ t)
seen_is None t tag h = cc
seen_is (Some held) t tag h = let both : ◌≡◌ {A = Tree × ℕ} (held.tree, held.tag) (t, tag) = cc in (held, refl, ap (λ (x : Tree × ℕ). x.0) both)

-- the document of a version
pub held_at : (c : Content) (id : DocId) (t : Tree) (tag : ℕ) → ◌≡◌ {A = Option (Tree × ℕ)} (version_of c id) (Some (t, tag)) → (h : StoredDocument) × (find_document stored_id c.documents id ≡ Some h) × (h.tree ≡ t)
held_at c id t tag is = seen_is (find_document stored_id c.documents id) t tag is

-- the tree of a version is sound for its usage
pub sound_at : (c : Content) (id : DocId) (usage : Usage) (t : Tree) (tag : ℕ) → usage_of id.auid ≡ Some usage → ◌≡◌ {A = Option (Tree × ℕ)} (version_of c id) (Some (t, tag)) → AllSound c → IsSoundDocument usage t
sound_at c id usage t tag known is all =
    let h = held_at c id t tag is in
    subst (λ (x : Tree). IsSoundDocument usage x) h.2 (subst (λ (u : Option Usage). IsSoundDocumentFor u h.0.tree) known (sound_held c id h.0 h.1 all))

-- a change that fits is an edit
pub edits : (t : Tree) (change : Change) → FitsTree t change → change_kind change ≡ Edits
edits t (CreateDocument root) fits = absurd fits
edits t (Insert parent gap element) fits = refl
edits t (Replace p element) fits = refl
edits t (Remove p) fits = refl
edits t (SetAttr p name value) fits = refl
edits t (DropAttr p name) fits = refl
edits t RemoveDocument fits = absurd fits

-- a planned change may be asked for
pub asks_to_edit : (c : Content) (id : DocId) (usage : Usage) (t : Tree) (tag : ℕ) (change : Change) → usage_of id.auid ≡ Some usage → ◌≡◌ {A = Option (Tree × ℕ)} (version_of c id) (Some (t, tag))
    → LeavesProperTree t change → HasFirstFault usage (edited t change) None → MayRequest c id change
asks_to_edit c id usage t tag change known is leaves faultless =
    let h = held_at c id t tag is in
    let P : StoredDocument → Type 0 = λ e. FitsTree e.tree change × MayBeDocumentFor (usage_of e.id.auid) (edited e.tree change) in
    let may : MayBeDocument usage (edited t change) = record { proper = leaves.proper; low = leaves.low; faultless = faultless } in
    let for_id : MayBeDocumentFor (usage_of id.auid) (edited t change) = subst (λ (u : Option Usage). MayBeDocumentFor u (edited t change)) (sym known) may in
    let for_held : MayBeDocumentFor (usage_of h.0.id.auid) (edited t change) = subst (λ (d : DocId). MayBeDocumentFor (usage_of d.auid) (edited t change)) (found-name c id h.0 h.1) for_id in
    let here : P h.0 = subst (λ (x : Tree). FitsTree x change × MayBeDocumentFor (usage_of h.0.id.auid) (edited x change)) (sym h.2) (leaves.fits, for_held) in
    subst (λ (a : ChangeKind). MayRequestByKind c id change a) (sym (edits t change leaves.fits)) (subst (λ (o : Option StoredDocument). IsSomeAnd o P) (sym h.1) here)

-- a user who may write in a home is the home's user
pub users_write : (auid : Auid) (home : Home) (fields : List Field) → is_allowed true auid home fields ≡ true → IsUserHome home
users_write auid Global fields is = let no : ⊥ = cc in absurd no
users_write auid (User xui) fields is = tt
