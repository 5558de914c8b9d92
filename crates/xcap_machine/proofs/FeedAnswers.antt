-- The machine's answer to a request for a feed brings the replica that applies it up to date.
use Rattle.std.proofs.Common.{◌≡◌, ℕ, Bool, true, false, cond, List, [], Option, None, Some, option_map, Result, Ok, decimal, encode_utf8_all, slice_get, true≢false, refl, sym, ap, ◌∙◌, subst, arith}
use Rattle.std.proofs.lemmas.Bool.{eq-eqb}
use Rattle.std.specs.Prelude.{◌==◌}
use Rattle.xml_tree.specs.Tree.{Tree}
use Rattle.tree_text.specs.Faults.{IsTextResult}
use Rattle.xml_tree.specs.Print.{document_print}
use Rattle.doc_names.specs.DocIds.{id_text}
use Rattle.doc_names.specs.NameEquality.{same_id}
use Rattle.doc_names.specs.declared.doc_id.DocId.{DocId}
use Rattle.xcap_uri.specs.PrintedNames.{is_encodable}
use Rattle.xcap_uri.proofs.AddressedDocuments.{addressed}
use Rattle.xcap_uri.specs.Roots.{IsRoot, authority_of, path_of}
use Rattle.xcap_uri.specs.Targets.{IsTargetResult}
use Rattle.xcap_uri.specs.declared.fault.UriFault.{UriFault}
use Rattle.xcap_uri.specs.declared.target.Mode.{Mode}
use Rattle.xcap_uri.specs.declared.target.Mode.TheVariants.{NoPatching, XcapPatching, Aggregate}
use Rattle.xcap_uri.specs.declared.target.Target.{Target}
use Rattle.xcap_uri.specs.declared.target.Target.TheVariants.{Feed}
use Rattle.xcap_uri.proofs.TargetAnswers.{one_target}
use Rattle.edit_ops.specs.Notes.{Note}
use Rattle.patch_rules.specs.Notices.{gone_notice}
use Rattle.patch_rules.specs.Replay.{ReplayAnswer as Outcome, ReplicaContents as Copy, Removed}
use Rattle.patch_write.specs.Modes.{notice_of}
use Rattle.reply_text.specs.ReplyHeads.{plain_reply}
use Rattle.http_wire.specs.declared.request.Request.{Request}
use Rattle.request_checks.specs.Methods.{method_of}
use Rattle.request_checks.specs.Rights.{is_allowed}
use Rattle.request_checks.specs.declared.method.Method.{Method}
use Rattle.request_checks.specs.declared.method.Method.TheVariants.{Get}
use Rattle.store_core.specs.DocumentChanges.{find_document, document_id, stored_id}
use Rattle.store_core.specs.Contents.{StoredDocument, Represents, StoreContents, stored_document}
use Rattle.store_core.specs.ValidStates.{IsValidHistory, IsValidState}
use Rattle.store_core.specs.Since.{Gone, ChangesSince, ReportedChanges, Unknown, notes_from, since}
use Rattle.store_core.specs.inner.ChangesSince.{stored_changes_since, changes_since_of}
use Rattle.store_core.specs.State.{Document, State, Version, versions}
use Rattle.xcap_machine.specs.SubscriberReplicas.{DiffUpdatesReplica, ReportsSince, patch_answer_between, fetch_answer_between, replica_of_version}
use Rattle.xcap_machine.proofs.OneVersion.{found_all, held_there, one_version}
use Rattle.xcap_machine.proofs.Present.{aggregate, gone, patching, some_version, tags_alone}
use Rattle.xcap_machine.specs.Answers.{Answer, reply_only}
use Rattle.xcap_machine.specs.Feeds.{changes_since_answer}
use Rattle.xcap_machine.specs.Requests.{AnswersByTarget, IsAnswer}
use Rattle.xcap_machine.specs.inner.AnswerCases.{AnswersByMethod, AnswersByUser}
use Rattle.xcap_machine.specs.StandardRequests.{auid_of, home_of}
use Rattle.xcap_machine.specs.inner.AnswerCases.{IsAnswerByTarget}
use Rattle.xcap_machine.proofs.Cases.{either}
use Rattle.xcap_machine.specs.SubscriberVersions.{UpdatesReplica, UpdatesReplicaFrom, UpdatesReplicaIfStored, UpdatesReplicaBetween, UpdatesSubscriber}
use Rattle.xcap_machine.specs.inner.RecordValues.{feed_query, version_notes, read_request, server_state}

-- ---- a document that is gone

never_gone : (o : Option (List Note)) → changes_since_of o ≡ Gone → ⊥
never_gone None e = cc
never_gone (Some ns) e = cc

held_never_gone : (tag : ℕ) (h : StoredDocument) (b : Bool) → cond b (ReportedChanges []) (changes_since_of (notes_from tag h.notes)) ≡ Gone → ⊥
held_never_gone tag h true e = cc
held_never_gone tag h false e = never_gone (notes_from tag h.notes) e

nothing_held : (tag : ℕ) (o : Option StoredDocument) → stored_changes_since tag o ≡ Gone → o ≡ None
nothing_held tag None e = refl
nothing_held tag (Some h) e = absurd (held_never_gone tag h (h.tag == tag) e)

no_document : (o : Option Document) → option_map stored_document o ≡ None → o ≡ None
no_document None e = refl
no_document (Some d) e = absurd cc

gone_there : (c : StoreContents) (m : State) (id : DocId) (tag : ℕ) → Represents c m → since c id tag ≡ Gone → find_document document_id m.documents id ≡ None
gone_there c m id tag stands e =
    let none : find_document stored_id c.documents id ≡ None = nothing_held tag (find_document stored_id c.documents id) e in
    no_document (find_document document_id m.documents id) (sym (held_there m.documents id) ∙ ap (λ (x : StoreContents). find_document stored_id x.documents id) (sym stands) ∙ none)

-- ---- one version of each tag

one_of_tag : (m : State) (id : DocId) (d : Document) (from other : Version) (number k : ℕ) → IsValidState m → find_document document_id m.documents id ≡ Some d
    → slice_get (versions d) number ≡ Some from → slice_get (versions d) k ≡ Some other → other.tag ≡ from.tag → other ≡ from
one_of_tag m id d from other number k kept there is is_other same =
    let kept_so : IsValidHistory m.next d = found_all (IsValidHistory m.next) (λ x. same_id id x.id) m.documents d kept.documents there in
    one_version d.now d.earlier k number other from kept_so.follows is_other is same

-- ---- the text of a diff document

-- the body brings what the diff document brings
led : (id : DocId) (notice : Tree) (held : Copy) (answer : Outcome) (new : Copy) (body : List ℕ) → body ≡ encode_utf8_all (document_print notice) → DiffUpdatesReplica id notice held answer new → UpdatesReplica id body held answer new
led id notice held answer new body same brings = record {
  notice = notice;
  is_read = subst (λ (b : List ℕ). IsTextResult 67 [] b (Ok notice)) (sym same) brings.is_read.read;
  form = brings.is_read.form;
  proper = brings.is_read.proper;
  is_applied = brings.is_applied;
}

module _ (root : List ℕ) (is_root : IsRoot root (authority_of root) (path_of root)) (c : StoreContents) (m : State) (kept : IsValidState m) (stands : Represents c m)
    (mode : Mode) (tag : ℕ) (id : DocId) (encodable : is_encodable id ≡ true) (body : List ℕ) where
  by_mode : (one : Mode) (d : Document) (from : Version) (ns : List Note) → ReportsSince c m (version_notes id d from ns) → body ≡ encode_utf8_all (document_print (notice_of one root (id_text id) from.tag ns)) → UpdatesReplicaBetween one id body from d.now
  by_mode NoPatching d from ns tells same = led id _ (replica_of_version from) (fetch_answer_between from d.now) (replica_of_version from) body same (tags_alone c m (version_notes id d from ns) root tells is_root encodable)
  by_mode XcapPatching d from ns tells same = led id _ (replica_of_version from) (patch_answer_between from d.now) (replica_of_version d.now) body same (patching c m (version_notes id d from ns) root tells is_root encodable)
  by_mode Aggregate d from ns tells same = led id _ (replica_of_version from) (patch_answer_between from d.now) (replica_of_version d.now) body same (aggregate c m (version_notes id d from ns) root tells is_root encodable)

  told_on : (ns : List Note) → since c id tag ≡ ReportedChanges ns → body ≡ encode_utf8_all (document_print (notice_of mode root (id_text id) tag ns)) → UpdatesReplicaIfStored mode tag id body (find_document document_id m.documents id)
  told_on ns told same =
      let v = some_version c m id tag ns kept stands told in
      let d = v.0 in
      let from = v.1 in
      let tells = v.3 in
      let here : body ≡ encode_utf8_all (document_print (notice_of mode root (id_text id) from.tag ns)) =
      same ∙ ap (λ (n : ℕ). encode_utf8_all (document_print (notice_of mode root (id_text id) n ns))) (sym v.2) in
      let updates : UpdatesReplicaFrom mode tag id body d = record {
        from = from;
        number = tells.number;
        is_version = tells.is_version;
        same_tag = v.2;
        only = λ other k is same_tag. one_of_tag m id d from other tells.number k kept tells.there tells.is_version is (same_tag ∙ sym v.2);
        updates = by_mode mode d from ns tells here;
      } in
      subst (UpdatesReplicaIfStored mode tag id body) (sym tells.there) updates

  gone_on : since c id tag ≡ Gone → body ≡ encode_utf8_all (document_print (gone_notice root (id_text id) tag)) → UpdatesReplicaIfStored mode tag id body (find_document document_id m.documents id)
  gone_on none same =
      let drops : (t : Tree) → UpdatesReplica id body (Some (decimal tag, t)) Removed None = λ t. led id (gone_notice root (id_text id) tag) (Some (decimal tag, t)) Removed None body same (gone id tag t root is_root encodable) in
      subst (UpdatesReplicaIfStored mode tag id body) (sym (gone_there c m id tag stands none)) drops

-- ---- the answer

module _ (root : List ℕ) (is_root : IsRoot root (authority_of root) (path_of root)) (c : StoreContents) (m : State) (kept : IsValidState m) (stands : Represents c m) (request : Request) (a : Answer)
    (mode : Mode) (tag : ℕ) (id : DocId) (encodable : is_encodable id ≡ true) where
  -- a status that neither says what changed nor that the tag is unknown
  silent : (status : ℕ) → (status == 200) ≡ false → (status == 410) ≡ false → a ≡ reply_only (plain_reply status request.closes) → UpdatesSubscriber m mode tag id a.reply
  silent status some known is = record {
    updates = λ same. absurd (differ status 200 some (sym (ap (λ (x : Answer). x.reply.status) is) ∙ same));
    unknown = λ same. absurd (differ status 410 known (sym (ap (λ (x : Answer). x.reply.status) is) ∙ same));
  }
    where
      differ : (n k : ℕ) → (n == k) ≡ false → n ≡ k → ⊥
      differ n k other same = true≢false (sym (eq-eqb n k same) ∙ other)

  by_story : (changes_since : ChangesSince) → since c id tag ≡ changes_since → a ≡ changes_since_answer root (feed_query mode tag id) changes_since (read_request Get request) → UpdatesSubscriber m mode tag id a.reply
  by_story Gone e is = record {
    updates = λ _. gone_on root is_root c m kept stands mode tag id encodable a.reply.body e (ap (λ (x : Answer). x.reply.body) is);
    unknown = λ same. let never : 200 ≡ 410 = sym (ap (λ (x : Answer). x.reply.status) is) ∙ same in absurd (omega (arith, never));
  }
  by_story Unknown e is = record {
    updates = λ same. let never : 410 ≡ 200 = sym (ap (λ (x : Answer). x.reply.status) is) ∙ same in absurd (omega (arith, never));
    unknown = λ _. ap (λ (x : StoreContents). since x id tag) (sym stands) ∙ e;
  }
  by_story (ReportedChanges ns) e is = record {
    updates = λ _. told_on root is_root c m kept stands mode tag id encodable a.reply.body ns e (ap (λ (x : Answer). x.reply.body) is);
    unknown = λ same. let never : 200 ≡ 410 = sym (ap (λ (x : Answer). x.reply.status) is) ∙ same in absurd (omega (arith, never));
  }

  by_user : AnswersByUser (server_state root c) (Feed mode tag id) Get request a → UpdatesSubscriber m mode tag id a.reply
  by_user is =
      either (is_allowed false (auid_of (Feed mode tag id)) (home_of (Feed mode tag id)) request.fields) (AnswersByMethod (server_state root c) (Feed mode tag id) Get request a) (a ≡ reply_only (plain_reply 403 request.closes))
      (λ _. by_story (since c id tag) refl) (λ _. silent 403 refl refl) is

  by_target : AnswersByTarget (server_state root c) (Feed mode tag id) (method_of request.method) request a → method_of request.method ≡ Get → UpdatesSubscriber m mode tag id a.reply
  by_target is method = by_user (subst (λ (x : Method). AnswersByTarget (server_state root c) (Feed mode tag id) x request a) method is)

pub holds : (root : List ℕ) → IsRoot root (authority_of root) (path_of root) → (c : StoreContents) (m : State) (request : Request) (a : Answer) → IsValidState m → Represents c m → IsAnswer root c request a
    → (mode : Mode) (tag : ℕ) (id : DocId) → IsTargetResult root request.target (Ok (Feed mode tag id)) → method_of request.method ≡ Get → UpdatesSubscriber m mode tag id a.reply
holds root is_root c m request a kept stands is mode tag id target method =
    let same : is.0 ≡ Ok (Feed mode tag id) = one_target root request.target is.0 (Ok (Feed mode tag id)) is.1 target in
    let here : IsAnswerByTarget root c (Ok (Feed mode tag id)) request a = subst (λ (read : Result Target UriFault). IsAnswerByTarget root c read request a) same is.2 in
    by_target root is_root c m kept stands request a mode tag id (addressed root request.target mode tag id target) here method
