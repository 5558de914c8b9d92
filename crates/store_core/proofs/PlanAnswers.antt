-- The result of planning a change, from the reasons against it and its parts.
use Rattle.std.proofs.Common.{◌≡◌, ℕ, ◌+◌, ◌≤◌, Bool, true, false, List, [], length, Option, None, Some, IsSome, option_map, Result, Ok, Err, refl, sym, ap, subst, ◌∙◌}
use Rattle.std.proofs.lemmas.Option.{same_Some}
use Rattle.std.specs.Map.{lookup}
use Rattle.std.specs.Option.{option_or as or_else}
use Rattle.xml_tree.specs.Tree.{Tree}
use Rattle.usage_docs.specs.Services.{document_len}
use Rattle.doc_names.specs.NameEquality.{same_id}
use Rattle.doc_names.specs.Usages.{usage_of}
use Rattle.doc_names.specs.declared.doc_id.DocId.{DocId}
use Rattle.edit_ops.specs.Changes.{FitsTree, edited}
use Rattle.edit_ops.specs.declared.change.Change.{Change}
use Rattle.edit_ops.specs.declared.change.Change.TheVariants.{CreateDocument, RemoveDocument}
use Rattle.edit_ops.specs.Notes.{Note, note_of}
use Rattle.store_core.specs.declared.refusal.StoreRefusal.{StoreRefusal}
use Rattle.store_core.specs.declared.entry.Entry.{Entry}
use Rattle.store_core.specs.declared.staged_tree.StagedTree.TheVariants.{Whole, InPlace}
use Rattle.store_core.specs.declared.step.EntryStep.{EntryStep}
use Rattle.store_core.specs.declared.step.EntryStep.TheVariants.{Make, Edit, End}
use Rattle.store_core.specs.Contents.{StoredDocument, StoreContents as Content}
use Rattle.store_core.specs.ValidStates.{IsSoundDocumentFor, document_addresses}
use Rattle.store_core.specs.ChangePreconditions.{MayRequest, MayBeDocumentFor}
use Rattle.store_core.specs.DocumentChanges.{ChangeKind, Edits, change_kind, refusal_of, refusal_of_number, refusal_of_tree, refusal_or, change_result, contents_after, find_document, stored_id, note_for}
use Rattle.store_core.specs.TreeChanges.{IsStagedTreeFor, edits_within_root}
use Rattle.store_core.specs.inner.UnsharedTrees.{IsUnshared}
use Rattle.store_core.specs.PreparedChanges.{ReplacesAddresses, HasTreeForStep, IsPlanned, IsReady, IsStepOf, PreparedChange, total_len}
use Rattle.store_core.proofs.AcceptedChanges.{passes}
use Rattle.store_core.proofs.ChangePremises.{asked, found-name}
use Rattle.store_core.proofs.ServiceChanges.{exchanged-by}
use Rattle.store_core.proofs.ChangeReasons.{refused-first, refused-last, not-refused-at-all}
use Rattle.store_core.specs.StoreViews.{StoreView, new_entry}
use Rattle.store_core.specs.inner.Addresses.{AreReplacedAt, added_addresses_of, first_added_number, removed_addresses_of}
use Rattle.store_core.specs.declared.change_builder.Outline.{Outline}
use Rattle.store_core.specs.inner.ChangePlans.{IsStoredAs, IsCreationOutline, IsPreparedEdit, IsEditOutline, IsPlanResult}

-- ---- any change

pub plans-refused : (c : Content) (doc : DocId) (change : Change) (e : StoreRefusal) → change_result c doc change ≡ Err e → IsPlanResult c doc change (Err e)
unfolding IsPlanResult
plans-refused c doc change e h = h

pub plans-made : (c : Content) (doc : DocId) (change : Change) (p : PreparedChange) → p.doc ≡ doc → p.note.change ≡ change → IsPlanned c p → IsPlanResult c doc change (Ok p)
unfolding IsPlanResult
plans-made c doc change p d e h = (d, e, h)

pub plan-of : (c : Content) (doc : DocId) (change : Change) (p : PreparedChange) → IsPlanResult c doc change (Ok p) → (p.doc ≡ doc) × (p.note.change ≡ change) × IsPlanned c p
unfolding IsPlanResult
plan-of c doc change p h = h

pub reason-of : (c : Content) (doc : DocId) (change : Change) (e : StoreRefusal) → IsPlanResult c doc change (Err e) → change_result c doc change ≡ Err e
unfolding IsPlanResult
reason-of c doc change e h = h

-- the document that a look-up found
pub held-of : (o : Option StoredDocument) (t : Tree) (tag : ℕ) → (let x : Tree × ℕ = (t, tag) in Some x) ≡ option_map {U = Tree × ℕ} (λ (h : StoredDocument). (h.tree, h.tag)) o → (h : StoredDocument) × (o ≡ Some h) × (h.tree ≡ t) × (h.tag ≡ tag)
held-of None t tag e = cc
held-of (Some h) t tag e =
    let a : Tree × ℕ = (t, tag) in
    let b : Tree × ℕ = (h.tree, h.tag) in
    let same : a ≡ b = same_Some a b e in
    (h, refl, sym (ap (λ (x : Tree × ℕ). x.0) same), sym (ap (λ (x : Tree × ℕ). x.1) same))

pub nothing-read : (o : Option StoredDocument) → None ≡ option_map {U = Tree × ℕ} (λ (h : StoredDocument). (h.tree, h.tag)) o → IsSome o → ⊥
nothing-read None e h = cc
nothing-read (Some x) e h = cc

pub some-held : (o : Option StoredDocument) (h : StoredDocument) → o ≡ Some h → IsSome o
some-held o h e = rw e refl

-- a tree that isn't refused is short
pub is-short : (c : Content) (doc : DocId) (is_new : Bool) (t : Tree) → refusal_of_tree c doc is_new t ≡ None → document_len t ≤ 262144
is-short c doc is_new t h = (passes c doc is_new t h).short

-- ---- a creation

pub creation-refused : (c : Content) (doc : DocId) (root : Tree) (e : StoreRefusal) → refusal_of_tree c doc true root ≡ Some e → IsPlanResult c doc (CreateDocument root) (Err e)
creation-refused c doc root e h =
    let change = CreateDocument root in
    plans-refused c doc change e (refused-first (refusal_of_tree c doc true root) (refusal_of_number c) e (note_for c doc change (find_document stored_id c.documents doc)) (contents_after c doc change) h)

pub creation-unnumbered : (c : Content) (doc : DocId) (root : Tree) (e : StoreRefusal) → refusal_of_tree c doc true root ≡ None → refusal_of_number c ≡ Some e → IsPlanResult c doc (CreateDocument root) (Err e)
creation-unnumbered c doc root e h g =
    let change = CreateDocument root in
    plans-refused c doc change e (refused-last (refusal_of_tree c doc true root) (refusal_of_number c) e (note_for c doc change (find_document stored_id c.documents doc)) (contents_after c doc change) h g)

pub creation-planned : (c : Content) (doc : DocId) (root : Tree) (o : Outline) → MayRequest c doc (CreateDocument root) → IsCreationOutline c doc root o
    → IsPlanResult c doc (CreateDocument root) (Ok (record { doc = doc; note = record { previous = 0; next = o.number; bindings = []; change = CreateDocument root; fresh = false }; step = Make doc (new_entry o.number root); leaves = o.leaves; enters = o.enters; total = o.total }))
creation-planned c doc root o asks outlined =
    let change = CreateDocument root in
    let found = find_document stored_id c.documents doc in
    let note : ℕ → Note = λ n. record { previous = 0; next = n; bindings = []; change = change; fresh = false } in
    let p : PreparedChange = record { doc = doc; note = note o.number; step = Make doc (new_entry o.number root); leaves = o.leaves; enters = o.enters; total = o.total } in
    let noted : note_for c doc change found ≡ note o.number = ap (λ (h : Option StoredDocument). note_for c doc change h) asks.0 ∙ ap note (sym outlined.number) in
    plans-made c doc change p refl refl (record {
      asks = asks;
      made =
          not-refused-at-all (refusal_of_tree c doc true root) (refusal_of_number c) (note_for c doc change found) (contents_after c doc change) outlined.free outlined.numbered
          ∙ ap (λ (n : Note). let x : Note × Content = (n, contents_after c doc change) in let r : Result (Note × Content) StoreRefusal = Ok x in r) noted;
      number = outlined.number;
      step = (asks.0, refl, ap (λ (n : ℕ). new_entry n root) outlined.number, outlined.leaves, outlined.enters, outlined.total, refl);
    })

-- ---- an edit

edit-change_result : (c : Content) (doc : DocId) (change : Change) (h : StoredDocument) → change_kind change ≡ Edits → find_document stored_id c.documents doc ≡ Some h
    → change_result c doc change ≡ refusal_or (or_else (refusal_of_tree c doc false (edited h.tree change)) (refusal_of_number c)) (note_of h.tag c.next h.tree change) (contents_after c doc change)
edit-change_result c doc change h edits found =
    ap (λ (o : Option StoredDocument). refusal_or (refusal_of c doc change o (change_kind change)) (note_for c doc change o) (contents_after c doc change)) found
    ∙ ap (λ (act : ChangeKind). refusal_or (refusal_of c doc change (Some h) act) (note_of h.tag c.next h.tree change) (contents_after c doc change)) edits

pub edit-refused : (c : Content) (doc : DocId) (change : Change) (h : StoredDocument) (t : Tree) (e : StoreRefusal) → change_kind change ≡ Edits → find_document stored_id c.documents doc ≡ Some h → t ≡ edited h.tree change
    → refusal_of_tree c doc false t ≡ Some e → IsPlanResult c doc change (Err e)
edit-refused c doc change h t e edits found tree g =
    let note = note_of h.tag c.next h.tree change in
    plans-refused c doc change e
    (edit-change_result c doc change h edits found
    ∙ refused-first (refusal_of_tree c doc false (edited h.tree change)) (refusal_of_number c) e note (contents_after c doc change) (ap (λ (x : Tree). refusal_of_tree c doc false x) (sym tree) ∙ g))

pub edit-unnumbered : (c : Content) (doc : DocId) (change : Change) (h : StoredDocument) (t : Tree) (e : StoreRefusal) → change_kind change ≡ Edits → find_document stored_id c.documents doc ≡ Some h → t ≡ edited h.tree change
    → refusal_of_tree c doc false t ≡ None → refusal_of_number c ≡ Some e → IsPlanResult c doc change (Err e)
edit-unnumbered c doc change h t e edits found tree g n =
    let note = note_of h.tag c.next h.tree change in
    plans-refused c doc change e
    (edit-change_result c doc change h edits found
    ∙ refused-last (refusal_of_tree c doc false (edited h.tree change)) (refusal_of_number c) e note (contents_after c doc change) (ap (λ (x : Tree). refusal_of_tree c doc false x) (sym tree) ∙ g) n)

-- which of its addresses are replaced
pub edit-exchanged : (c : Content) (doc : DocId) (change : Change) (h : StoredDocument) (t : Tree) (first : ℕ) (leaves enters : List (List ℕ)) → MayRequest c doc change → change_kind change ≡ Edits
    → find_document stored_id c.documents doc ≡ Some h → h.tree ≡ t → IsSoundDocumentFor (usage_of doc.auid) t → first ≡ first_added_number change → leaves ≡ removed_addresses_of doc.auid t change → enters ≡ added_addresses_of doc.auid change
    → AreReplacedAt first (document_addresses doc.auid h.tree) leaves enters (document_addresses doc.auid (edited t change))
edit-exchanged c doc change h t first leaves enters asks edits found tree sound number left entered =
    let asked-for = asked c doc change h edits found asks in
    let fits : FitsTree t change = subst (λ (x : Tree). FitsTree x change) tree asked-for.0 in
    let named = subst (λ (d : DocId). MayBeDocumentFor (usage_of d.auid) (edited h.tree change)) (sym (found-name c doc h found)) asked-for.1 in
    let may : MayBeDocumentFor (usage_of doc.auid) (edited t change) = subst (λ (x : Tree). MayBeDocumentFor (usage_of doc.auid) (edited x change)) tree named in
    let new = document_addresses doc.auid (edited t change) in
    subst (λ (x : Tree). AreReplacedAt first (document_addresses doc.auid x) leaves enters new) (sym tree)
    (subst (λ (n : ℕ). AreReplacedAt n (document_addresses doc.auid t) leaves enters new) (sym number)
    (subst (λ (us : List (List ℕ)). AreReplacedAt (first_added_number change) (document_addresses doc.auid t) us enters new) (sym left)
    (subst (λ (us : List (List ℕ)). AreReplacedAt (first_added_number change) (document_addresses doc.auid t) (removed_addresses_of doc.auid t change) us new) (sym entered)
    (exchanged-by doc.auid t change fits sound may))))

-- so they are replaced between the same others
pub exchanged-between : (first : ℕ) (old now leaves enters new : List (List ℕ)) → now ≡ old → AreReplacedAt first old leaves enters new → ReplacesAddresses now leaves enters new
exchanged-between first old now leaves enters new same x = (x.before, x.behind, same ∙ x.was, x.becomes)

-- with its memory and its change record
pub edit-planned : (c : Content) (doc : DocId) (change : Change) (v : Entry) (o : Outline) (p : PreparedChange) → MayRequest c doc change → change_kind change ≡ Edits → IsStoredAs c doc v
    → IsEditOutline c doc v.tree.root change o → IsPreparedEdit doc v change o p → IsPlanResult c doc change (Ok p)
edit-planned c doc change v o p asks edits held outlined noted =
    let h = held.0 in
    let note = noted.0 in
    let staged = noted.3.0 in
    let with-step : EntryStep → PreparedChange = λ s. record { doc = doc; note = note; step = s; leaves = o.leaves; enters = o.enters; total = o.total } in
    let tree : v.tree.root ≡ h.tree = sym held.2 in
    let full : note ≡ note_of h.tag c.next h.tree change =
    noted.2 ∙ ap (λ (t : ℕ). note_of t o.number v.tree.root change) (sym held.3) ∙ ap (λ (t : Tree). note_of h.tag o.number t change) tree ∙ ap (λ (n : ℕ). note_of h.tag n h.tree change) outlined.number in
    let same : change ≡ note.change = sym (ap (λ (n : Note). n.change) full) in
    let after : edited v.tree.root change ≡ edited h.tree note.change = ap (λ (t : Tree). edited t change) tree ∙ ap (λ (x : Change). edited h.tree x) same in
    let made : change_result c doc change ≡ Ok (note, contents_after c doc change) =
    edit-change_result c doc change h edits held.1
    ∙ not-refused-at-all (refusal_of_tree c doc false (edited h.tree change)) (refusal_of_number c) (note_of h.tag c.next h.tree change) (contents_after c doc change)
    (ap (λ (t : Tree). refusal_of_tree c doc false (edited t change)) (sym tree) ∙ outlined.free) outlined.numbered
    ∙ ap (λ (n : Note). let x : Note × Content = (n, contents_after c doc change) in let r : Result (Note × Content) StoreRefusal = Ok x in r) (sym full) in
    let memory : IsStagedTreeFor h.tree note.change staged = subst (λ (t : Tree). IsStagedTreeFor t note.change staged) tree noted.3.1 in
    subst (λ (x : PreparedChange). IsPlanResult c doc change (Ok x)) (sym (noted.4 ∙ ap with-step noted.3.2))
    (plans-made c doc change (with-step (Edit staged note o.len)) refl (sym same) (record {
      asks = subst (λ (x : Change). MayRequest c doc x) same asks;
      made = subst (λ (x : Change). change_result c doc x ≡ Ok (note, contents_after c doc x)) same made;
      number = ap (λ (n : Note). n.next) full;
      step = (
        h,
        held.1,
        ap change_kind (sym same) ∙ edits,
        memory,
        outlined.len ∙ ap document_len after,
        refl,
        full ∙ ap (λ (x : Change). note_of h.tag c.next h.tree x) same,
        (
          outlined.addresses.0,
          outlined.addresses.1,
          ap (λ (t : Tree). document_addresses doc.auid t) (sym tree) ∙ outlined.addresses.2,
          ap (λ (t : Tree). document_addresses doc.auid t) (sym after) ∙ outlined.addresses.3,
        ),
        ap (λ (t : Tree). o.total + document_len t) (sym tree) ∙ outlined.total,
      );
    }))

-- ---- a removal

pub removal-unnumbered : (c : Content) (doc : DocId) (e : StoreRefusal) → refusal_of_number c ≡ Some e → IsPlanResult c doc RemoveDocument (Err e)
removal-unnumbered c doc e h =
    let note = note_for c doc RemoveDocument (find_document stored_id c.documents doc) in
    plans-refused c doc RemoveDocument e (ap (λ (o : Option StoreRefusal). refusal_or o note (contents_after c doc RemoveDocument)) h)

pub removal-planned : (c : Content) (doc : DocId) (h : StoredDocument) (tag number total : ℕ) (leaves : List (List ℕ)) → MayRequest c doc RemoveDocument → find_document stored_id c.documents doc ≡ Some h → refusal_of_number c ≡ None → number ≡ c.next
    → h.tag ≡ tag → leaves ≡ document_addresses doc.auid h.tree → total + document_len h.tree ≡ total_len c
    → IsPlanResult c doc RemoveDocument (Ok (record { doc = doc; note = record { previous = tag; next = number; bindings = []; change = RemoveDocument; fresh = false }; step = End; leaves = leaves; enters = []; total = total }))
removal-planned c doc h tag number total leaves asks found free numbered tagged left sum =
    let found_at = find_document stored_id c.documents doc in
    let note : ℕ → ℕ → Note = λ t n. record { previous = t; next = n; bindings = []; change = RemoveDocument; fresh = false } in
    let p : PreparedChange = record { doc = doc; note = note tag number; step = End; leaves = leaves; enters = []; total = total } in
    let noted : note_for c doc RemoveDocument found_at ≡ note tag number =
    ap (λ (o : Option StoredDocument). note_for c doc RemoveDocument o) found ∙ ap (λ (t : ℕ). note t c.next) tagged ∙ ap (note tag) (sym numbered) in
    plans-made c doc RemoveDocument p refl refl (record {
      asks = asks;
      made =
          ap (λ (o : Option StoreRefusal). refusal_or o (note_for c doc RemoveDocument found_at) (contents_after c doc RemoveDocument)) free
          ∙ ap (λ (n : Note). let x : Note × Content = (n, contents_after c doc RemoveDocument) in let r : Result (Note × Content) StoreRefusal = Ok x in r) noted;
      number = numbered;
      step = (h, found, refl, left, refl, sum);
    })

-- ---- a planned change, once its memory is reserved

pub prepared-ok : (c : Content) (doc : DocId) (change : Change) (p : PreparedChange) → IsPlanResult c doc change (Ok p)
    → (p.doc ≡ doc) × (change_result c doc change ≡ Ok (p.note, contents_after c doc change)) × (p.note.change ≡ change)
prepared-ok c doc change p h =
    let r = plan-of c doc change p h in
    let made : change_result c p.doc change ≡ Ok (p.note, contents_after c p.doc change) = subst (λ (x : Change). change_result c p.doc x ≡ Ok (p.note, contents_after c p.doc x)) r.1 r.2.made in
    (r.0, subst (λ (d : DocId). change_result c d change ≡ Ok (p.note, contents_after c d change)) r.0 made, r.1)

-- only an edit within the root is made in place
has-tree : (c : Content) (p : PreparedChange) (step : EntryStep) (trees : List (DocId × Bool)) → IsStepOf c p step → (edits_within_root p.note.change ≡ true → IsUnshared trees p.doc) → HasTreeForStep step (lookup (same_id p.doc) trees)
has-tree c p (Make key entry) trees h own = tt
has-tree c p (Edit (Whole root) kept len) trees h own = λ b is. tt
has-tree c p (Edit (InPlace staged) kept len) trees h own = own h.3.1
has-tree c p End trees h own = tt

pub prepared-ready : (s t : StoreView) (doc : DocId) (change : Change) (p : PreparedChange) → IsPlanResult s.content doc change (Ok p) → t.content ≡ s.content → 1 ≤ t.room.documents → length p.enters ≤ t.room.services
    → (edits_within_root p.note.change ≡ true → IsUnshared t.room.trees p.doc) → IsReady t p
prepared-ready s t doc change p h same document services own =
    let plan = plan-of s.content doc change p h in
    record {
      planned = subst (λ (c : Content). IsPlanned c p) (sym same) plan.2;
      document = document;
      services = services;
      tree = has-tree s.content p p.step t.room.trees plan.2.step own;
    }
