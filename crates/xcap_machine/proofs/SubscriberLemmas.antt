-- A tag names one version of a document, however the machine proceeds; so diff documents bring a
-- replica up to date from any version that was ever stored.
use Rattle.std.proofs.Common.{◌≡◌, ◌⊎◌, ℕ, zero, suc, ◌+◌, ◌<◌, ◌≤◌, List, [], ◌∷◌, Option, Some, None, Ok, option_map, slice_get, inl, inr, refl, sym, ap, ◌∙◌, subst, arith}
use Rattle.std.specs.List.{AllByRecursion}
use Rattle.xml_tree.specs.Tree.{Tree}
use Rattle.doc_names.specs.NameEquality.{same_id}
use Rattle.doc_names.specs.declared.doc_id.DocId.{DocId}
use Rattle.edit_ops.specs.declared.change.Change.{Change}
use Rattle.edit_ops.specs.Notes.{Note, note_of}
use Rattle.edit_ops.specs.declared.edit.Edit.{Edit}
use Rattle.reply_text.specs.ReplyHeads.{SentReply}
use Rattle.http_wire.specs.declared.request.Request.{Request}
use Rattle.request_checks.specs.Methods.{method_of}
use Rattle.request_checks.specs.declared.method.Method.TheVariants.{Get}
use Rattle.xcap_uri.specs.Roots.{IsRoot, authority_of, path_of}
use Rattle.xcap_uri.specs.Targets.{IsTargetResult}
use Rattle.xcap_uri.specs.declared.target.Mode.{Mode}
use Rattle.xcap_uri.specs.declared.target.Target.TheVariants.{Feed}
use Rattle.store_core.specs.DocumentChanges.{ChangeKind, Edits, Makes, Removes, change_kind, state_after, state_after_by_kind, find_document, document_id}
use Rattle.store_core.specs.Contents.{contents_of}
use Rattle.store_core.specs.ValidStates.{IsValidHistory, IsValidState}
use Rattle.store_core.specs.State.{Document, State, Version, new_document, document_after, versions}
use Rattle.xcap_machine.proofs.OneVersion.{found_all, one_version}
use Rattle.xcap_machine.specs.Answers.{MadeChange}
use Rattle.xcap_machine.specs.Machine.{ValidStep, state_after_answer, answer_with_edit, change_from_edit}
use Rattle.xcap_machine.specs.ReachedStates.{HasVersion, ReachesByValidSteps, goes_on, stays}
use Rattle.xcap_machine.specs.SubscriberVersions.{UpdatesReplicaFrom, UpdatesReplicaIfStored, UpdatesReplicaBetween, UpdatesSubscriber}
use Rattle.xcap_machine.proofs.FeedAnswers.{holds}
use Rattle.xcap_machine.proofs.Documents.{found_edited, found_less, found_more}

-- ---- versions in one state

kept_so : (m : State) (id : DocId) (d : Document) → IsValidState m → find_document document_id m.documents id ≡ Some d → IsValidHistory m.next d
kept_so m id d kept there = found_all (IsValidHistory m.next) (λ x. same_id id x.id) m.documents d kept.documents there

same_document : (o : Option Document) (d e : Document) → o ≡ Some d → o ≡ Some e → e ≡ d
same_document o d e a b = let both : Some e ≡ Some d = sym b ∙ a in cc

-- two versions of a document with one tag are equal
one_in_state : (m : State) (id : DocId) (v w : Version) → IsValidState m → HasVersion m id v → HasVersion m id w → w.tag ≡ v.tag → w ≡ v
one_in_state m id v w kept h k same =
    let d = h.document in
    let doc : k.document ≡ d = same_document (find_document document_id m.documents id) d k.document h.there k.there in
    let here : slice_get (versions d) k.number ≡ Some w = ap (λ (x : Document). slice_get (versions x) k.number) (sym doc) ∙ k.is_version in
    one_version d.now d.earlier k.number h.number w v (kept_so m id d kept h.there).follows here h.is_version same

tag_at : (next : ℕ) (vs : List Version) (k : ℕ) (v : Version) → AllByRecursion (λ x. (1 ≤ x.tag) × (x.tag < next)) vs → slice_get vs k ≡ Some v → v.tag < next
tag_at next [] k v h is = absurd cc
tag_at next (x ∷ vs) zero v h is = let same : x ≡ v = cc in subst (λ (y : Version). y.tag < next) same h.0.1
tag_at next (x ∷ vs) (suc k) v h is = tag_at next vs k v h.1 is

low_tag : (m : State) (id : DocId) (v : Version) → IsValidState m → HasVersion m id v → v.tag < m.next
low_tag m id v kept h = tag_at m.next (versions h.document) h.number v (kept_so m id h.document kept h.there).tags h.is_version

-- ---- versions after a change

made_version : (id : DocId) (next : ℕ) (root : Tree) (k : ℕ) (w : Version) → slice_get (versions (new_document id next root)) k ≡ Some w → w.tag ≡ next
made_version id next root zero w is = let same : (new_document id next root).now ≡ w = cc in ap (λ (x : Version). x.tag) (sym same)
made_version id next root (suc k) w is = absurd cc

-- a version of a document to which a change added one
edited_version : (m : State) (id : DocId) (d : Document) (n : Note) (k : ℕ) (w : Version) → find_document document_id m.documents id ≡ Some d → slice_get (versions (document_after m.next d n)) k ≡ Some w → HasVersion m id w ⊎ (w.tag ≡ m.next)
edited_version m id d n zero w there is = let same : (document_after m.next d n).now ≡ w = cc in inr (ap (λ (x : Version). x.tag) (sym same))
edited_version m id d n (suc k) w there is = inl (record { document = d; there = there; number = k; is_version = is })

module _ (m : State) (id : DocId) (w : Version) where
  from_edited : (x d : Document) (n : Note) (k : ℕ) → find_document document_id m.documents id ≡ Some d → slice_get (versions x) k ≡ Some w → (x ≡ d) ⊎ (x ≡ document_after m.next d n) → HasVersion m id w ⊎ (w.tag ≡ m.next)
  from_edited x d n k there is (inl same) = inl (record { document = d; there = there; number = k; is_version = ap (λ (y : Document). slice_get (versions y) k) (sym same) ∙ is })
  from_edited x d n k there is (inr same) = edited_version m id d n k w there (ap (λ (y : Document). slice_get (versions y) k) (sym same) ∙ is)

  from_made : (other : DocId) (root : Tree) (x : Document) (k : ℕ) → slice_get (versions x) k ≡ Some w → (find_document document_id m.documents id ≡ Some x) ⊎ (x ≡ new_document other m.next root) → HasVersion m id w ⊎ (w.tag ≡ m.next)
  from_made other root x k is (inl there) = inl (record { document = x; there = there; number = k; is_version = is })
  from_made other root x k is (inr same) = inr (made_version other m.next root k w (ap (λ (y : Document). slice_get (versions y) k) (sym same) ∙ is))

  -- each version after a change was there before it, or has the number of the change
  from_before : (other : DocId) (change : Change) (act : ChangeKind) → HasVersion (state_after_by_kind m other change act) id w → HasVersion m id w ⊎ (w.tag ≡ m.next)
  from_before other change (Makes root) h = from_made other root h.document h.number h.is_version (found_more m.documents (new_document other m.next root) h.document id h.there)
  from_before other change Edits h =
      let note : Document → Note = λ d. note_of d.now.tag m.next d.now.tree change in
      let f = found_edited m.next note m.documents other id h.document h.there in
      from_edited h.document f.0 (note f.0) h.number f.1 h.is_version f.2
  from_before other change Removes h = inl (record { document = h.document; there = found_less m.documents other id h.document h.there; number = h.number; is_version = h.is_version })

-- ---- versions after steps

next_number : (m : State) (id : DocId) (change : Change) (act : ChangeKind) → (state_after_by_kind m id change act).next ≡ m.next + 1
next_number m id change (Makes root) = refl
next_number m id change Edits = refl
next_number m id change Removes = refl

-- each version of the document with the tag of this one is this one, and the tag was given
record IsOnly (n : State) (id : DocId) (v : Version) : Type 0 where
  given : v.tag < n.next
  only : (w : Version) → HasVersion n id w → w.tag ≡ v.tag → w ≡ v

after_change : (m : State) (id : DocId) (v : Version) (made : MadeChange) → IsOnly m id v → IsOnly (state_after_answer m (Some made)) id v
after_change m id v made h = record {
  given = omega (arith, h.given, next_number m made.0 made.1.change (change_kind made.1.change));
  only = λ w has same. by w same (from_before m id w made.0 made.1.change (change_kind made.1.change) has);
}
  where
    by : (w : Version) → w.tag ≡ v.tag → HasVersion m id w ⊎ (w.tag ≡ m.next) → w ≡ v
    by w same (inl has) = h.only w has same
    by w same (inr new) = absurd (omega (arith, h.given, same, new))

after_told : (m : State) (id : DocId) (v : Version) (edit : Option Edit) → IsOnly m id v → IsOnly (state_after_answer m (option_map change_from_edit edit)) id v
after_told m id v None h = h
after_told m id v (Some e) h = after_change m id v (change_from_edit e) h

after_steps : (root : List ℕ) (m n : State) (id : DocId) (v : Version) → ReachesByValidSteps root m n → IsOnly m id v → IsOnly n id v
after_steps root _ _ id v (stays m) h = h
after_steps root _ _ id v (goes_on m n last request reply edit step rest) h =
    after_steps root n last id v rest (subst (λ (s : State). IsOnly s id v) (sym step.1.goes_on) (after_told m id v edit h))

pub one_of_a_tag : (root : List ℕ) (m n : State) (id : DocId) (v w : Version) → IsValidState m → ReachesByValidSteps root m n → HasVersion m id v → HasVersion n id w → w.tag ≡ v.tag → w ≡ v
one_of_a_tag root m n id v w kept reaches has there same =
    let only : IsOnly m id v = record { given = low_tag m id v kept has; only = λ x is e. one_in_state m id v x kept has is e } in
    (after_steps root m n id v reaches only).only w there same

-- ---- diff documents

pub in_order : (root : List ℕ) → IsRoot root (authority_of root) (path_of root) → (m n state_after : State) (request : Request) (reply : SentReply) (edit : Option Edit) (mode : Mode) (id : DocId) (v : Version) (d : Document)
    → IsValidState m → ReachesByValidSteps root m n → HasVersion m id v → ValidStep root n request reply state_after edit → IsTargetResult root request.target (Ok (Feed mode v.tag id)) → method_of request.method ≡ Get
    → reply.status ≡ 200 → find_document document_id n.documents id ≡ Some d → UpdatesReplicaBetween mode id reply.body v d.now
in_order root is_root m n state_after request reply edit mode id v d kept reaches has step target method ok there =
    let s : UpdatesSubscriber n mode v.tag id reply = holds root is_root (contents_of n) n request (answer_with_edit reply edit) step.0 refl step.1.answers mode v.tag id target method in
    let updates : UpdatesReplicaFrom mode v.tag id reply.body d = subst (UpdatesReplicaIfStored mode v.tag id reply.body) there (s.updates ok) in
    let from : HasVersion n id updates.from = record { document = d; there = there; number = updates.number; is_version = updates.is_version } in
    subst (λ (x : Version). UpdatesReplicaBetween mode id reply.body x d.now) (one_of_a_tag root m n id v updates.from kept reaches has from updates.same_tag) updates.updates
