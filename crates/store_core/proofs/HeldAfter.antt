-- The documents stored after a change: the changed one, and all others.
use Rattle.std.proofs.Common.{◌≡◌, ℕ, Bool, true, false, cond, not, List, [], ◌∷◌, ◌++◌, find, map, filter, None, Some, refl, sym, ap, ◌∙◌}
use Rattle.std.proofs.lemmas.Option.{same_Some}
use Rattle.xml_tree.specs.Tree.{Tree}
use Rattle.doc_names.specs.NameEquality.{same_id}
use Rattle.doc_names.specs.declared.doc_id.DocId.{DocId}
use Rattle.doc_names.proofs.SameIds.{id_self}
use Rattle.edit_ops.specs.declared.change.Change.{Change}
use Rattle.edit_ops.specs.declared.change.Change.TheVariants.{CreateDocument, RemoveDocument}
use Rattle.store_core.specs.DocumentChanges.{ChangeKind, Edits, change_kind, contents_after, contents_after_by_kind, find_document, stored_document_after, stored_id, without_document}
use Rattle.store_core.specs.Contents.{StoredDocument, StoreContents as Content}

-- ---- the documents with one replaced, with one more, and without one

abbrev pub with : (StoredDocument → StoredDocument) → DocId → List StoredDocument → List StoredDocument
with f id ds = map (λ d. cond (same_id id d.id) (f d) d) ds

found_with : (f : StoredDocument → StoredDocument) → ((d : StoredDocument) → (f d).id ≡ d.id) → (id : DocId) (ds : List StoredDocument) (h : StoredDocument) → find (λ d. same_id id d.id) ds ≡ Some h → find (λ d. same_id id d.id) (with f id ds) ≡ Some (f h)
found_with f keeps id [] h is = cc
found_with f keeps id (d ∷ ds) h is = by (same_id id d.id) refl (found_with f keeps id ds h)
  where
    by : (b : Bool) → same_id id d.id ≡ b → (find (λ e. same_id id e.id) ds ≡ Some h → find (λ e. same_id id e.id) (with f id ds) ≡ Some (f h)) → find (λ e. same_id id e.id) (with f id (d ∷ ds)) ≡ Some (f h)
    by true e rest =
        let same : d ≡ h = same_Some d h (rw e at is) in
        let here : same_id id (f d).id ≡ true = ap (λ (x : DocId). same_id id x) (keeps d) ∙ e in
        rw e (rw here (ap (λ (x : StoredDocument). Some (f x)) same))
    by false e rest = rw e (rw e (rest (rw e at is)))

found_more : (id : DocId) (ds : List StoredDocument) (new : StoredDocument) → find (λ d. same_id id d.id) ds ≡ None → same_id id new.id ≡ true → find (λ d. same_id id d.id) (ds ++ new ∷ []) ≡ Some new
found_more id [] new none own = rw own refl
found_more id (d ∷ ds) new none own = by (same_id id d.id) refl (found_more id ds new)
  where
    by : (b : Bool) → same_id id d.id ≡ b → (find (λ e. same_id id e.id) ds ≡ None → same_id id new.id ≡ true → find (λ e. same_id id e.id) (ds ++ new ∷ []) ≡ Some new) → find (λ e. same_id id e.id) ((d ∷ ds) ++ new ∷ []) ≡ Some new
    by true e rest = let z : Some d ≡ None = rw e at none in cc
    by false e rest = rw e (rest (rw e at none) own)

found_without : (id : DocId) (ds : List StoredDocument) → find (λ d. same_id id d.id) (filter (λ d. not (same_id id d.id)) ds) ≡ None
found_without id [] = refl
found_without id (d ∷ ds) = by (same_id id d.id) refl (found_without id ds)
  where
    by : (b : Bool) → same_id id d.id ≡ b → find (λ e. same_id id e.id) (filter (λ e. not (same_id id e.id)) ds) ≡ None → find (λ e. same_id id e.id) (filter (λ e. not (same_id id e.id)) (d ∷ ds)) ≡ None
    by true e rest = rw e rest
    by false e rest = rw e (rw e rest)

-- the others are unchanged
others_with : (f : StoredDocument → StoredDocument) → ((d : StoredDocument) → (f d).id ≡ d.id) → (id : DocId) (ds : List StoredDocument) → filter (λ d. not (same_id id d.id)) (with f id ds) ≡ filter (λ d. not (same_id id d.id)) ds
others_with f keeps id [] = refl
others_with f keeps id (d ∷ ds) = by (same_id id d.id) refl (others_with f keeps id ds)
  where
    by : (b : Bool) → same_id id d.id ≡ b → filter (λ e. not (same_id id e.id)) (with f id ds) ≡ filter (λ e. not (same_id id e.id)) ds → filter (λ e. not (same_id id e.id)) (with f id (d ∷ ds)) ≡ filter (λ e. not (same_id id e.id)) (d ∷ ds)
    by true e rest = let here : same_id id (f d).id ≡ true = ap (λ (x : DocId). same_id id x) (keeps d) ∙ e in rw e (rw here rest)
    by false e rest = rw e (rw e (ap (λ (l : List StoredDocument). d ∷ l) rest))

others_more : (id : DocId) (ds : List StoredDocument) (new : StoredDocument) → same_id id new.id ≡ true → filter (λ d. not (same_id id d.id)) (ds ++ new ∷ []) ≡ filter (λ d. not (same_id id d.id)) ds
others_more id [] new own = rw own refl
others_more id (d ∷ ds) new own = by (same_id id d.id) refl (others_more id ds new own)
  where
    by : (b : Bool) → same_id id d.id ≡ b → filter (λ e. not (same_id id e.id)) (ds ++ new ∷ []) ≡ filter (λ e. not (same_id id e.id)) ds → filter (λ e. not (same_id id e.id)) ((d ∷ ds) ++ new ∷ []) ≡ filter (λ e. not (same_id id e.id)) (d ∷ ds)
    by true e rest = rw e rest
    by false e rest = rw e (ap (λ (l : List StoredDocument). d ∷ l) rest)

-- ---- after a change

pub by_act : (c : Content) (id : DocId) (change : Change) (act : ChangeKind) → change_kind change ≡ act → contents_after_by_kind c id change act ≡ contents_after c id change
by_act c id change act is = ap (λ (a : ChangeKind). contents_after_by_kind c id change a) (sym is)

pub edited_there : (c : Content) (id : DocId) (change : Change) (h : StoredDocument) → change_kind change ≡ Edits → find_document stored_id c.documents id ≡ Some h → find_document stored_id (contents_after c id change).documents id ≡ Some (stored_document_after c.next change h)
edited_there c id change h acts there =
    ap (λ (x : Content). find_document stored_id x.documents id) (sym (by_act c id change Edits acts)) ∙ found_with (stored_document_after c.next change) (λ d. refl) id c.documents h there

abbrev pub new_held : DocId → ℕ → Tree → StoredDocument
new_held id tag t = record { id = id; tag = tag; tree = t; notes = [] }

pub made_there : (c : Content) (id : DocId) (t : Tree) → find_document stored_id c.documents id ≡ None → find_document stored_id (contents_after c id (CreateDocument t)).documents id ≡ Some (new_held id c.next t)
made_there c id t none = found_more id c.documents (new_held id c.next t) none (id_self id)

pub removed_there : (c : Content) (id : DocId) → find_document stored_id (contents_after c id RemoveDocument).documents id ≡ None
removed_there c id = found_without id c.documents

-- the others after an edit, and after a creation
pub same_others : (c : Content) (id : DocId) (change : Change) → change_kind change ≡ Edits → without_document stored_id (contents_after c id change).documents id ≡ without_document stored_id c.documents id
same_others c id change acts =
    ap (λ (x : Content). without_document stored_id x.documents id) (sym (by_act c id change Edits acts)) ∙ others_with (stored_document_after c.next change) (λ d. refl) id c.documents

pub same_others_more : (c : Content) (id : DocId) (t : Tree) → without_document stored_id (contents_after c id (CreateDocument t)).documents id ≡ without_document stored_id c.documents id
same_others_more c id t = others_more id c.documents (new_held id c.next t) (id_self id)
