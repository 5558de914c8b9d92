-- A change is of a document under the home of the user who asks for it, and leaves all other homes.
use Rattle.std.proofs.Common.{◌≡◌, ℕ, Bool, true, false, not, cond, List, [], ◌∷◌, ◌++◌, filter, is_some, Option, None, Some, Result, Ok, Err, refl, sym, ap, subst, ◌∙◌}
use Rattle.std.proofs.lemmas.Bool.{and_parts}
use Rattle.std.specs.Cmp.Lexicographic.{bytes_decides}
use Rattle.xml_tree.specs.Tree.{Tree}
use Rattle.doc_names.specs.NameEquality.{same_home, same_id}
use Rattle.doc_names.specs.declared.doc_id.Auid.{Auid}
use Rattle.doc_names.specs.declared.doc_id.DocId.{DocId}
use Rattle.doc_names.specs.declared.doc_id.Home.{Home}
use Rattle.doc_names.specs.declared.doc_id.Home.TheVariants.{Global, User}
use Rattle.doc_names.specs.declared.usages.Usage.{Usage}
use Rattle.doc_names.proofs.SameIds.{id_exact}
use Rattle.node_select.specs.declared.selector.Selector.{Selector}
use Rattle.edit_ops.specs.Notes.{note_of}
use Rattle.edit_ops.specs.declared.change.Change.{Change}
use Rattle.edit_ops.specs.declared.change.Change.TheVariants.{RemoveDocument}
use Rattle.edit_ops.specs.declared.edit.Edit.{Edit}
use Rattle.http_wire.specs.declared.request.Request.{Request}
use Rattle.reply_text.specs.ReplyHeads.{SentReply}
use Rattle.request_checks.specs.Methods.{method_of}
use Rattle.request_checks.specs.Rights.{is_allowed, is_fixed_usage, is_from_user}
use Rattle.request_checks.specs.declared.method.Method.{Method}
use Rattle.request_checks.specs.declared.method.Method.TheVariants.{Get, Head, Put, Delete, Other}
use Rattle.store_core.specs.Contents.{StoreContents, contents_of}
use Rattle.store_core.specs.DocumentChanges.{ChangeKind, Edits, Makes, Removes, change_kind, state_after_by_kind, contents_after_by_kind, document_id, stored_document_after, stored_id, with_document, without_document}
use Rattle.store_core.specs.State.{State, document_after}
use Rattle.xcap_uri.specs.Targets.{IsTargetResult}
use Rattle.xcap_uri.specs.declared.fault.UriFault.{UriFault}
use Rattle.xcap_uri.specs.declared.target.Target.{Target}
use Rattle.xcap_uri.specs.declared.target.Target.TheVariants.{Document as DocumentTarget, Node, Deep, Feed, ElementFeed, Flat}
use Rattle.xcap_machine.specs.Answers.{Answer, MadeChange}
use Rattle.xcap_machine.specs.DocumentWrites.{delete_reply, put_change, put_reply}
use Rattle.xcap_machine.specs.StepOutcomes.{reports_change}
use Rattle.xcap_machine.specs.Machine.{ContentStep, Step, answer_with_edit, change_from_edit}
use Rattle.xcap_machine.specs.NodeWrites.{node_delete_reply, node_exists}
use Rattle.xcap_machine.specs.Requests.{IsAnswer}
use Rattle.xcap_machine.specs.StandardRequests.{DeletesTarget, PutsTarget, auid_of, home_of}
use Rattle.xcap_machine.specs.Resources.{version_of}
use Rattle.xcap_machine.specs.inner.AnswerCases.{IsAnswerByTarget}
use Rattle.xcap_machine.specs.inner.RecordValues.{server_state}
use Rattle.xcap_machine.proofs.AcceptedRequests.{NodePut, by_target, delete_enters, document_deleted, document_put, node_deleted, node_put, of_element, of_value, put_enters, stopped_never, store_made}
use Rattle.xcap_machine.proofs.Ways.{Way, changes, stays, way_of}
use Rattle.xcap_laws.specs.HomeAccess.{ChangesOwnHome, documents_elsewhere}

-- ---- a list without the documents that a test drops

dropped : {D : Type 0} (b : Bool) (d : D) (ds : List D) → b ≡ false → cond b (d ∷ ds) ds ≡ ds
dropped true d ds h = let z : true ≡ false = h in absurd cc
dropped false d ds h = refl

module _ {D : Type 0} (id_of : D → DocId) (p : DocId → Bool) (id : DocId) (drops : p id ≡ false) where
  abbrev kept : List D → List D
  kept ds = filter (λ d. p (id_of d)) ds

  drops_same : (d : D) → same_id id (id_of d) ≡ true → p (id_of d) ≡ false
  drops_same d same = sym (ap p (id_exact id (id_of d) same)) ∙ drops

  module _ (f : D → D) (names : (d : D) → id_of (f d) ≡ id_of d) where
    with_step : (d : D) (b : Bool) (xs ys : List D) → same_id id (id_of d) ≡ b → xs ≡ ys → cond (p (id_of (cond b (f d) d))) (cond b (f d) d ∷ xs) xs ≡ cond (p (id_of d)) (d ∷ ys) ys
    with_step d true xs ys e same = dropped (p (id_of (f d))) (f d) xs (ap p (names d) ∙ drops_same d e) ∙ same ∙ sym (dropped (p (id_of d)) d ys (drops_same d e))
    with_step d false xs ys e same = ap (λ (zs : List D). cond (p (id_of d)) (d ∷ zs) zs) same

    with_kept : (ds : List D) → kept (with_document id_of f ds id) ≡ kept ds
    with_kept [] = refl
    with_kept (d ∷ ds) = with_step d (same_id id (id_of d)) (kept (with_document id_of f ds id)) (kept ds) refl (with_kept ds)

  without_step : (d : D) (b : Bool) (xs ys : List D) → same_id id (id_of d) ≡ b → kept xs ≡ kept ys → kept (cond (not b) (d ∷ xs) xs) ≡ cond (p (id_of d)) (d ∷ kept ys) (kept ys)
  without_step d true xs ys e same = same ∙ sym (dropped (p (id_of d)) d (kept ys) (drops_same d e))
  without_step d false xs ys e same = ap (λ (zs : List D). cond (p (id_of d)) (d ∷ zs) zs) same

  without_kept : (ds : List D) → kept (without_document id_of ds id) ≡ kept ds
  without_kept [] = refl
  without_kept (d ∷ ds) = without_step d (same_id id (id_of d)) (without_document id_of ds id) ds refl (without_kept ds)

  made_kept : (d : D) → id_of d ≡ id → (ds : List D) → kept (ds ++ d ∷ []) ≡ kept ds
  made_kept d named [] = dropped (p (id_of d)) d [] (ap p named ∙ drops)
  made_kept d named (e ∷ ds) = ap (λ (zs : List D). cond (p (id_of e)) (e ∷ zs) zs) (made_kept d named ds)

-- ---- the documents elsewhere after a change at home

-- whether a document isn't under the home of this user
abbrev is_elsewhere : List ℕ → DocId → Bool
is_elsewhere xui id = not (same_home (User xui) id.home)

at_home : (xui : List ℕ) (id : DocId) → id.home ≡ User xui → is_elsewhere xui id ≡ false
at_home xui id own = ap (λ (h : Home). not (same_home (User xui) h)) own ∙ ap not ((bytes_decides xui xui).1 refl)

held_elsewhere : (c : StoreContents) (xui : List ℕ) (id : DocId) (change : Change) (act : ChangeKind) → id.home ≡ User xui
    → documents_elsewhere stored_id xui (contents_after_by_kind c id change act).documents ≡ documents_elsewhere stored_id xui c.documents
held_elsewhere c xui id change (Makes root) own = made_kept stored_id (is_elsewhere xui) id (at_home xui id own) (record { id = id; tag = c.next; tree = root; notes = [] }) refl c.documents
held_elsewhere c xui id change Edits own = with_kept stored_id (is_elsewhere xui) id (at_home xui id own) (stored_document_after c.next change) (λ d. refl) c.documents
held_elsewhere c xui id change Removes own = without_kept stored_id (is_elsewhere xui) id (at_home xui id own) c.documents

versions_elsewhere : (m : State) (xui : List ℕ) (id : DocId) (change : Change) (act : ChangeKind) → id.home ≡ User xui
    → documents_elsewhere document_id xui (state_after_by_kind m id change act).documents ≡ documents_elsewhere document_id xui m.documents
versions_elsewhere m xui id change (Makes root) own = made_kept document_id (is_elsewhere xui) id (at_home xui id own) (record { id = id; now = record { tag = m.next; tree = root; note = None }; earlier = [] }) refl m.documents
versions_elsewhere m xui id change Edits own = with_kept document_id (is_elsewhere xui) id (at_home xui id own) (λ d. document_after m.next d (note_of d.now.tag m.next d.now.tree change)) (λ d. refl) m.documents
versions_elsewhere m xui id change Removes own = without_kept document_id (is_elsewhere xui) id (at_home xui id own) m.documents

-- ---- who makes a change

-- the home is the one of the user who makes the request
record IsOwner (request : Request) (home : Home) : Type 0 where
  xui : List ℕ
  by_user : is_from_user xui request.fields ≡ true
  own : home ≡ User xui

may_write : (auid : Auid) (home : Home) (request : Request) → is_allowed true auid home request.fields ≡ true → IsOwner request home
may_write auid Global request is = let z : false ≡ true = is in absurd cc
may_write auid (User xui) request is = record { xui = xui; by_user = (and_parts (not (is_fixed_usage auid)) (is_from_user xui request.fields) is).1; own = refl }

module _ (root : List ℕ) (c : StoreContents) (request : Request) (a : Answer) (made : MadeChange) (is : a.made ≡ Some made) where
  node_named : (id : DocId) (usage : Usage) (selector : Selector) (t : Tree) → NodePut c id usage selector t request a → made.0 ≡ id
  node_named id usage selector t (of_element spot ends_in place e spelled change plan answers) = (store_made c id change request.closes (put_reply (node_exists t selector) request.closes) a made is answers).of_document
  node_named id usage selector t (of_value p uri local value ends_in place spelled change plan answers) = (store_made c id change request.closes (put_reply (node_exists t selector) request.closes) a made is answers).of_document

  put_home : (target : Target) (usage : Usage) → PutsTarget (server_state root c) target usage request a → made.0.home ≡ home_of target
  put_home (DocumentTarget id) usage h =
      let put = document_put c id usage request a made is h in
      let exists = is_some (version_of c id) in
      ap (λ (d : DocId). d.home) (store_made c id (put_change exists put.tree) request.closes (put_reply exists request.closes) a made is put.answers).of_document
  put_home (Node id selector) usage h =
      let held = node_put root c id usage selector (version_of c id) request a made is h in
      ap (λ (d : DocId). d.home) (node_named id usage selector held.tree held.put.put)
  put_home (Deep auid home) usage h = absurd (stopped_never a _ made is h)
  put_home (Feed mode tag id) usage h = absurd h
  put_home (ElementFeed tag id selector raw) usage h = absurd h
  put_home (Flat id service) usage h = absurd h

  delete_home : (target : Target) (usage : Usage) → DeletesTarget c target usage request a → made.0.home ≡ home_of target
  delete_home (DocumentTarget id) usage h =
      let gone = document_deleted c id (version_of c id) request a made is h in
      ap (λ (d : DocId). d.home) (store_made c id RemoveDocument request.closes (delete_reply request.closes) a made is gone.answers).of_document
  delete_home (Node id selector) usage h =
      let cut = node_deleted c id usage selector (version_of c id) request a made is h in
      ap (λ (d : DocId). d.home) (store_made c id cut.change request.closes (node_delete_reply request.closes) a made is cut.answers).of_document
  delete_home (Deep auid home) usage h = absurd (stopped_never a _ made is h)
  delete_home (Feed mode tag id) usage h = absurd h
  delete_home (ElementFeed tag id selector raw) usage h = absurd h
  delete_home (Flat id service) usage h = absurd h

  -- a method that never reports a change makes none
  quiet : (method : Method) → ((status : ℕ) → reports_change method status ≡ false) → Way method request.closes c a → ⊥
  quiet method silent (stays reply tells closes same) = stopped_never a reply made is same
  quiet method silent (changes reply tells closes id change note next asks was_made same) = let z : true ≡ false = sym tells ∙ silent reply.status in cc

  module _ (whole : IsAnswer root c request a) (target : Target) (means : IsTargetResult root request.target (Ok target)) where
    owned_by : (method : Method) → method_of request.method ≡ method → IsOwner request made.0.home
    owned_by Get asks = absurd (quiet Get (λ status. refl) (subst (λ (m : Method). Way m request.closes c a) asks (way_of root c request a whole)))
    owned_by Head asks = absurd (quiet Head (λ status. refl) (subst (λ (m : Method). Way m request.closes c a) asks (way_of root c request a whole)))
    owned_by Put asks =
        let e = put_enters root c request target a made is (by_target root c request a target Put means asks whole) in
        subst (λ (h : Home). IsOwner request h) (sym (put_home target e.usage e.does)) (may_write (auid_of target) (home_of target) request e.is_user)
    owned_by Delete asks =
        let e = delete_enters root c request target a made is (by_target root c request a target Delete means asks whole) in
        subst (λ (h : Home). IsOwner request h) (sym (delete_home target e.usage e.does)) (may_write (auid_of target) (home_of target) request e.is_user)
    owned_by Other asks = absurd (quiet Other (λ status. refl) (subst (λ (m : Method). Way m request.closes c a) asks (way_of root c request a whole)))

  owned_at : IsAnswer root c request a → (read : Result Target UriFault) → IsTargetResult root request.target read → IsAnswerByTarget root c read request a → IsOwner request made.0.home
  owned_at whole (Err fault) means h = absurd (stopped_never a _ made is h)
  owned_at whole (Ok target) means h = owned_by whole target means (method_of request.method) refl

  owned : IsAnswer root c request a → IsOwner request made.0.home
  owned whole = owned_at whole whole.0 whole.1 whole.2

-- ---- the law

pub own_change : (root : List ℕ) (c next : StoreContents) (request : Request) (reply : SentReply) (edit : Option Edit) → ContentStep root c request reply next edit → ChangesOwnHome stored_id request edit c.documents next.documents
own_change root c next request reply None d = ap (λ (x : StoreContents). x.documents) d.goes_on
own_change root c next request reply (Some e) d =
    let o = owned root c request (answer_with_edit reply (Some e)) (change_from_edit e) refl d.answers in
    record {
      xui = o.xui;
      by_user = o.by_user;
      at_home = o.own;
      others = ap (λ (x : StoreContents). documents_elsewhere stored_id o.xui x.documents) d.goes_on ∙ held_elsewhere c o.xui e.doc e.note.change (change_kind e.note.change) o.own;
    }

pub own_step : (root : List ℕ) (m next : State) (request : Request) (reply : SentReply) (edit : Option Edit) → Step root m request reply next edit → ChangesOwnHome document_id request edit m.documents next.documents
own_step root m next request reply None s = ap (λ (x : State). x.documents) s.goes_on
own_step root m next request reply (Some e) s =
    let o = owned root (contents_of m) request (answer_with_edit reply (Some e)) (change_from_edit e) refl s.answers in
    record {
      xui = o.xui;
      by_user = o.by_user;
      at_home = o.own;
      others = ap (λ (x : State). documents_elsewhere document_id o.xui x.documents) s.goes_on ∙ versions_elsewhere m o.xui e.doc e.note.change (change_kind e.note.change) o.own;
    }
