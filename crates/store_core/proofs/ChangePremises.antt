-- What may be asked for: an edit of a stored document; and a tree that may be a document of
-- services, as a new document or in place of the stored one.
use Rattle.std.proofs.Common.{◌≡◌, Bool, true, false, cond, List, [], ◌∷◌, find, is_some, Option, None, Some, IsSome, IsSomeAnd, option_map, refl, sym, ap, subst, ◌∙◌}
use Rattle.doc_names.specs.declared.usages.Usage.TheVariants as usages
use Rattle.doc_names.specs.DocIds.{IsAddressable}
use Rattle.doc_names.specs.NameEquality.{same_id}
use Rattle.doc_names.specs.declared.doc_id.Auid.{Auid}
use Rattle.doc_names.specs.declared.doc_id.Auid.TheVariants.{RlsServices}
use Rattle.doc_names.specs.declared.doc_id.DocId.{DocId}
use Rattle.edit_ops.specs.Changes.{FitsTree, edited}
use Rattle.edit_ops.specs.declared.change.Change.{Change}
use Rattle.edit_ops.specs.declared.change.Change.TheVariants.{CreateDocument, Replace}
use Rattle.xml_tree.specs.Tree.{Tree}
use Rattle.store_core.specs.ChangePreconditions.{MayRequest, MayRequestByKind, MayBeDocument, MayBeDocumentFor}
use Rattle.store_core.specs.DocumentChanges.{ChangeKind, Edits, change_kind, find_document, stored_id}
use Rattle.store_core.specs.Contents.{StoredDocument, StoreContents as Content}
use Rattle.store_core.specs.ValidStates.{IsUserHome}
use Rattle.doc_names.specs.Usages.{usage_of}
use Rattle.doc_names.proofs.SameIds.{id_exact}

-- ---- an edit

-- what is required of an edit of the stored document
pub asked : (c : Content) (doc : DocId) (change : Change) (h : StoredDocument) → change_kind change ≡ Edits → find_document stored_id c.documents doc ≡ Some h → MayRequest c doc change → FitsTree h.tree change × MayBeDocumentFor (usage_of h.id.auid) (edited h.tree change)
asked c doc change h edits found asks =
    let here : MayRequestByKind c doc change Edits = subst (λ (act : ChangeKind). MayRequestByKind c doc change act) edits asks in
    subst (λ (o : Option StoredDocument). IsSomeAnd o (λ x. FitsTree x.tree change × MayBeDocumentFor (usage_of x.id.auid) (edited x.tree change))) found here

pub asks-held : (c : Content) (doc : DocId) (change : Change) → change_kind change ≡ Edits → MayRequest c doc change → IsSome (find_document stored_id c.documents doc)
asks-held c doc change edits asks =
    let here : MayRequestByKind c doc change Edits = subst (λ (act : ChangeKind). MayRequestByKind c doc change act) edits asks in
    some-where (find_document stored_id c.documents doc) here
  where
    some-where : (o : Option StoredDocument) → IsSomeAnd o (λ x. FitsTree x.tree change × MayBeDocumentFor (usage_of x.id.auid) (edited x.tree change)) → IsSome o
    some-where None a = absurd a
    some-where (Some x) a = refl

-- ---- what is found has the name that was looked for

found-step : (id : DocId) (d h : StoredDocument) (ds : List StoredDocument) (b : Bool) → same_id id d.id ≡ b → cond b (Some d) (find (λ e. same_id id e.id) ds) ≡ Some h
    → (find (λ e. same_id id e.id) ds ≡ Some h → same_id id h.id ≡ true) → same_id id h.id ≡ true
found-step id d h ds true is found below = let same : d ≡ h = cc in sym (ap (λ (e : StoredDocument). same_id id e.id) same) ∙ is
found-step id d h ds false is found below = below found

found-same : (id : DocId) (h : StoredDocument) (ds : List StoredDocument) → find (λ e. same_id id e.id) ds ≡ Some h → same_id id h.id ≡ true
found-same id h [] found = cc
found-same id h (d ∷ ds) found = found-step id d h ds (same_id id d.id) refl found (found-same id h ds)

pub found-name : (c : Content) (id : DocId) (h : StoredDocument) → find_document stored_id c.documents id ≡ Some h → id ≡ h.id
found-name c id h found = id_exact id h.id (found-same id h c.documents found)

-- ---- the result of a look-up

pub told-there : {A B C : Type 0} (f : A → C) (g : B → C) (o : Option A) (held : Option B) → option_map f o ≡ option_map g held → is_some o ≡ is_some held
told-there f g None None e = refl
told-there f g None (Some h) e = cc
told-there f g (Some x) None e = cc
told-there f g (Some x) (Some h) e = refl

-- ---- the change

module _ (c : Content) (id : DocId) (t : Tree) (readable : IsAddressable id) (users : IsUserHome id.home) (may : MayBeDocumentFor (usage_of id.auid) t) where
  asks-by : (b : Bool) (held : Option StoredDocument) → find_document stored_id c.documents id ≡ held → b ≡ is_some held → MayRequest c id (cond b (Replace [] t) (CreateDocument t))
  asks-by false None is e = (is, readable, users, may)
  asks-by true None is e = cc
  asks-by false (Some h) is e = cc
  asks-by true (Some h) is e =
      let P : StoredDocument → Type 0 = λ x. FitsTree x.tree (Replace [] t) × MayBeDocumentFor (usage_of x.id.auid) (edited x.tree (Replace [] t)) in
      let here : P h = (refl, subst (λ (d : DocId). MayBeDocumentFor (usage_of d.auid) t) (found-name c id h is) may) in
      subst (λ (o : Option StoredDocument). IsSomeAnd o P) (sym is) here

may-for : (auid : Auid) (t : Tree) → auid ≡ RlsServices → MayBeDocument usages.RlsServices t → MayBeDocumentFor (usage_of auid) t
may-for auid t is may = subst (λ (a : Auid). MayBeDocumentFor (usage_of a) t) (sym is) may

pub asks-put : (c : Content) (id : DocId) (t : Tree) → IsAddressable id → IsUserHome id.home → id.auid ≡ RlsServices → MayBeDocument usages.RlsServices t → (b : Bool) → b ≡ is_some (find_document stored_id c.documents id)
    → (change : Change) → change ≡ cond b (Replace [] t) (CreateDocument t) → MayRequest c id change
asks-put c id t readable users is may b known change of =
    subst (λ (x : Change). MayRequest c id x) (sym of) (asks-by c id t readable users (may-for id.auid t is may) b (find_document stored_id c.documents id) refl known)
