-- The conditions that a request passed which made a change.
use Rattle.std.proofs.Common.{◌≡◌, ◌<◌, ℕ, Bool, true, false, not, ◌&&◌, ◌||◌, nat_le, List, [], ◌∷◌, is_some, codes, Option, None, Some, Result, Ok, Err, refl, sym, ap, subst, ◌∙◌, true≢false, arith}
use Rattle.std.specs.Bool.{MatchBool}
use Rattle.std.specs.Option.{option_map_or, option_or}
use Rattle.std.specs.List.{list_any}
use Rattle.std.specs.Prelude.{if◌then◌else◌, decimal}
use Rattle.std.specs.Str.{bytes_eq}
use Rattle.std.proofs.lemmas.Bool.{and_parts}
use Rattle.std.proofs.lemmas.Bool.Decides.{nat_tests}
use Rattle.std.proofs.lemmas.Fmt.{decimal_injective}
use Rattle.std.proofs.lemmas.Slice.Eq.{bytes_eq-Decides}
use Rattle.doc_names.specs.declared.doc_id.DocId.{DocId}
use Rattle.doc_names.specs.declared.usages.Usage.{Usage}
use Rattle.edit_ops.specs.Changes.{edited}
use Rattle.edit_ops.specs.Notes.{Note}
use Rattle.edit_ops.specs.declared.change.Change.{Change}
use Rattle.edit_ops.specs.declared.change.Change.TheVariants.{RemoveDocument}
use Rattle.edit_ops.specs.declared.edit.Edit.{Edit}
use Rattle.edit_rules.specs.declared.spot.NoParent.{NoParent}
use Rattle.edit_rules.specs.declared.spot.Spot.{Spot}
use Rattle.http_wire.specs.declared.request.Request.{Request}
use Rattle.node_select.specs.declared.selector.Selector.{Selector}
use Rattle.reply_text.specs.ReplyHeads.{SentReply, plain_reply}
use Rattle.request_checks.proofs.Values.{one_conditions}
use Rattle.request_checks.specs.Conditions.{IsConditionReply, outcome_of_verdict, outcome_reply}
use Rattle.request_checks.specs.Fields.{IsConditionsReading, FieldValue, Preconditions, Star}
use Rattle.request_checks.specs.MediaTypes.{document_media_type}
use Rattle.request_checks.specs.Methods.{method_of}
use Rattle.request_checks.specs.Rights.{fields_named}
use Rattle.request_checks.specs.Verdicts.{if_match_holds, if_none_match_holds, matches_etag_weakly, matches_etag_strongly, precondition_verdict}
use Rattle.request_checks.specs.declared.conditions.Outcome.{Outcome}
use Rattle.request_checks.specs.declared.conditions.Outcome.TheVariants as outcomes
use Rattle.request_checks.specs.declared.entity_tags.EntityTag.{EntityTag}
use Rattle.request_checks.specs.declared.method.Method.{Method}
use Rattle.request_checks.specs.declared.method.Method.TheVariants.{Get, Head, Put, Delete, Other}
use Rattle.request_checks.specs.declared.verdicts.Verdict.TheVariants.{Go, Same, Failed}
use Rattle.store_core.proofs.SoundHeld.{AllSound}
use Rattle.store_core.specs.Contents.{StoredDocument, StoreContents as Content}
use Rattle.store_core.specs.DocumentChanges.{ChangeKind, Makes, Edits, Removes, change_kind, refusal_of, refusal_of_number, refusal_of_tree, refusal_or, change_result, contents_after, find_document, note_for, refusal_if, stored_id}
use Rattle.store_core.specs.ChangePreconditions.{MayRequest}
use Rattle.store_core.specs.declared.refusal.StoreRefusal.{StoreRefusal}
use Rattle.store_core.specs.declared.refusal.StoreRefusal.TheVariants.{NoNumber}
use Rattle.xcap_laws.specs.EntityTags.{HasIfMatch, HasIfNoneMatch}
use Rattle.xcap_machine.proofs.AcceptedRequests.{NodePut, accepted, by_target, delete_enters, document_deleted, document_put, node_deleted, node_put, of_element, of_value, put_enters, stopped_never, store_made}
use Rattle.xcap_machine.proofs.ChangeAnswers.{as_the_store, told_by_store}
use Rattle.xcap_machine.proofs.Steps.{made_change}
use Rattle.xcap_machine.proofs.Ways.{Way, changes, stays, way_of}
use Rattle.xcap_machine.specs.Answers.{Answer, AppliesConditions, MadeChange, reply_only}
use Rattle.xcap_machine.specs.DocumentWrites.{PutsBody, PutsDocument, change_answer, delete_reply, put_answer, put_change, put_reply}
use Rattle.xcap_machine.specs.StepOutcomes.{reports_change}
use Rattle.xcap_machine.specs.Machine.{ContentStep, answer_with_edit, change_from_edit}
use Rattle.xcap_machine.specs.NodeWrites.{RemovesNode, PutsFragment, PutsByEditTarget, node_delete_reply, node_exists}
use Rattle.xcap_machine.specs.StandardRequests.{DeletesTarget, PutsTarget}
use Rattle.xcap_machine.specs.Resources.{version_of}
use Rattle.xcap_machine.specs.inner.AnswerCases.{AnswersUnlessStopped, DeletesDocumentIfStored, DeletesNodeIfStored, PutsNodeIfStored, version_tag as tag_of}
use Rattle.xcap_machine.specs.inner.RecordValues.{representation, server_state, node_write}
use Rattle.xcap_uri.specs.declared.target.Target.{Target}
use Rattle.xcap_uri.specs.declared.target.Target.TheVariants.{Document, Node, Deep, Feed, ElementFeed, Flat}
use Rattle.xml_tree.specs.Tree.{Tree}

-- ---- the change

-- the change of the edit may be asked for, and there is no reason against it
pub record ChangeMade (c : Content) (e : Edit) : Type 0 where
  pub asked : AllSound c → MayRequest c e.doc e.note.change
  pub unrefused : refusal_of c e.doc e.note.change (find_document stored_id c.documents e.doc) (change_kind e.note.change) ≡ None

answered_free : (refusal : Option StoreRefusal) (note : Note) (c : Content) (x : Note × Content) → refusal_or refusal note c ≡ Ok x → refusal ≡ None
answered_free None note c x h = refl
answered_free (Some refusal) note c x h = let z : ◌≡◌ {A = Result (Note × Content) StoreRefusal} (Err refusal) (Ok x) = h in cc

made_by : (method : Method) (closes : Bool) (c : Content) (a : Answer) (e : Edit) → a.made ≡ Some (change_from_edit e) → Way method closes c a → ChangeMade c e
made_by method closes c a e told (stays reply tells same is) = absurd (stopped_never a reply (change_from_edit e) told is)
made_by method closes c a e told (changes reply tells same id change note next asks made is) =
    let so : ◌≡◌ {A = Option MadeChange} (Some (change_from_edit e)) (Some (id, note)) = sym told ∙ ap (λ (x : Answer). x.made) is in
    let both : ◌≡◌ {A = MadeChange} (change_from_edit e) (id, note) = cc in
    let doc : e.doc ≡ id = ap (λ (x : MadeChange). x.0) both in
    let is_note : e.note ≡ note = ap (λ (x : MadeChange). x.1) both in
    let same_change : e.note.change ≡ change = ap (λ (n : Note). n.change) is_note ∙ made_change c id change note next made in
    let free : refusal_of c id change (find_document stored_id c.documents id) (change_kind change) ≡ None =
    answered_free (refusal_of c id change (find_document stored_id c.documents id) (change_kind change)) (note_for c id change (find_document stored_id c.documents id)) (contents_after c id change) (note, next) made in
    record {
      asked = subst (λ (x : DocId). AllSound c → MayRequest c x e.note.change) (sym doc) (subst (λ (x : Change). AllSound c → MayRequest c id x) (sym same_change) asks);
      unrefused = subst (λ (x : DocId). refusal_of c x e.note.change (find_document stored_id c.documents x) (change_kind e.note.change) ≡ None) (sym doc)
          (subst (λ (x : Change). refusal_of c id x (find_document stored_id c.documents id) (change_kind x) ≡ None) (sym same_change) free);
    }

pub change_made : (root : List ℕ) (c next : Content) (request : Request) (reply : SentReply) (e : Edit) → ContentStep root c request reply next (Some e) → ChangeMade c e
change_made root c next request reply e does = made_by (method_of request.method) request.closes c (answer_with_edit reply (Some e)) e refl (way_of root c request (answer_with_edit reply (Some e)) does.answers)

or_none : {A : Type 0} (a b : Option A) → option_or a b ≡ None → b ≡ None
or_none None b h = h
or_none (Some x) b h = cc

number_free : (c : Content) (id : DocId) (change : Change) (h : StoredDocument) (act : ChangeKind) → refusal_of c id change (Some h) act ≡ None → refusal_of_number c ≡ None
number_free c id change h (Makes root) free = or_none (refusal_of_tree c id true root) (refusal_of_number c) free
number_free c id change h Edits free = or_none (refusal_of_tree c id false (edited h.tree change)) (refusal_of_number c) free
number_free c id change h Removes free = free

fits : (c : Content) → refusal_of_number c ≡ None → c.next < 18446744073709551616
fits c h = by (nat_le 18446744073709551616 c.next) refl h
  where
    by : (b : Bool) → nat_le 18446744073709551616 c.next ≡ b → refusal_if b NoNumber ≡ None → c.next < 18446744073709551616
    by true e h = let z : Some NoNumber ≡ None = h in absurd cc
    by false e h = grind (arith, nat_tests)

pub low_number : (c : Content) (e : Edit) (h : StoredDocument) → ChangeMade c e → find_document stored_id c.documents e.doc ≡ Some h → c.next < 18446744073709551616
low_number c e h made there =
    fits c (number_free c e.doc e.note.change h (change_kind e.note.change) (subst (λ (o : Option StoredDocument). refusal_of c e.doc e.note.change o (change_kind e.note.change) ≡ None) there made.unrefused))

-- ---- the conditions

behind_free : (request : Request) (tag : Option ℕ) (exists : Bool) (P : Type 0) (a : Answer) (made : MadeChange) → a.made ≡ Some made → AppliesConditions request (representation tag exists) false a P → IsConditionReply request tag exists false None
behind_free request tag exists P a made is h = by h.0 h.1 h.2
  where
    by : (stop : Option SentReply) → IsConditionReply request tag exists false stop → AnswersUnlessStopped stop a P → IsConditionReply request tag exists false None
    by None s next = s
    by (Some reply) s next = absurd (stopped_never a reply made is next)

either_so : (b : Bool) (P : Type 0) (a : Answer) (reply : SentReply) (made : MadeChange) → a.made ≡ Some made → MatchBool b P (a ≡ reply_only reply) → P
either_so true P a reply made is h = h
either_so false P a reply made is h = absurd (stopped_never a reply made is h)

-- the reply is made from the record of the change
reply_made : (c : Content) (id : DocId) (change : Change) (closes : Bool) (reply : Note → SentReply) (a : Answer) (made : MadeChange) → a.made ≡ Some made → a ≡ change_answer c id change closes reply → (note : Note) × (a.reply ≡ reply note)
reply_made c id change closes reply a made is same = by (change_result c id change) (same ∙ as_the_store c id change closes reply)
  where
    by : (r : Result (Note × Content) StoreRefusal) → a ≡ told_by_store id closes reply r → (note : Note) × (a.reply ≡ reply note)
    by (Err refusal) h = absurd (stopped_never a _ made is h)
    by (Ok (note, next)) h = (note, ap (λ (x : Answer). x.reply) h)

created : (exists closes : Bool) (note : Note) → exists ≡ false → (put_reply exists closes note).status ≡ 201
created true closes note is = let z : true ≡ false = is in absurd cc
created false closes note is = refl

-- the conditions of the request hold for the present tag of the document of the edit
pub record Passes (c : Content) (request : Request) (a : Answer) (e : Edit) : Type 0 where
  pub exists : Bool
  pub is_new : exists ≡ false → a.reply.status ≡ 201
  pub free : IsConditionReply request (tag_of (version_of c e.doc)) exists false None

module _ (root : List ℕ) (c : Content) (request : Request) (a : Answer) (e : Edit) (told : a.made ≡ Some (change_from_edit e)) where
  passes_of : (id : DocId) (exists : Bool) → (exists ≡ false → a.reply.status ≡ 201) → e.doc ≡ id → IsConditionReply request (tag_of (version_of c id)) exists false None → Passes c request a e
  passes_of id exists is_new doc free = record { exists = exists; is_new = is_new; free = subst (λ (x : DocId). IsConditionReply request (tag_of (version_of c x)) exists false None) (sym doc) free }

  document_put_passes : (id : DocId) (usage : Usage) → PutsDocument c id usage request a → Passes c request a e
  document_put_passes id usage h =
      let put = document_put c id usage request a (change_from_edit e) told h in
      let exists = is_some (version_of c id) in
      let made = store_made c id (put_change exists put.tree) request.closes (put_reply exists request.closes) a (change_from_edit e) told put.answers in
      let replied = reply_made c id (put_change exists put.tree) request.closes (put_reply exists request.closes) a (change_from_edit e) told put.answers in
      passes_of id exists (λ none. ap (λ (r : SentReply). r.status) replied.1 ∙ created exists request.closes replied.0 none) made.of_document (behind_free request (tag_of (version_of c id)) exists (PutsBody usage (document_media_type id.auid) request (put_answer c id request.closes) a) a (change_from_edit e) told h)

  node_put_doc : (id : DocId) (usage : Usage) (selector : Selector) (t : Tree) → NodePut c id usage selector t request a → e.doc ≡ id
  node_put_doc id usage selector t (of_element spot ends_in place x spelled change plan answers) = (store_made c id change request.closes (put_reply (node_exists t selector) request.closes) a (change_from_edit e) told answers).of_document
  node_put_doc id usage selector t (of_value p uri local value ends_in place spelled change plan answers) = (store_made c id change request.closes (put_reply (node_exists t selector) request.closes) a (change_from_edit e) told answers).of_document

  node_put_new : (id : DocId) (usage : Usage) (selector : Selector) (t : Tree) (change : Change) → a ≡ change_answer c id change request.closes (put_reply (node_exists t selector) request.closes) → node_exists t selector ≡ false → a.reply.status ≡ 201
  node_put_new id usage selector t change answers none =
      let replied = reply_made c id change request.closes (put_reply (node_exists t selector) request.closes) a (change_from_edit e) told answers in
      ap (λ (r : SentReply). r.status) replied.1 ∙ created (node_exists t selector) request.closes replied.0 none

  node_new : (id : DocId) (usage : Usage) (selector : Selector) (t : Tree) → NodePut c id usage selector t request a → node_exists t selector ≡ false → a.reply.status ≡ 201
  node_new id usage selector t (of_element spot ends_in place x spelled change plan answers) = node_put_new id usage selector t change answers
  node_new id usage selector t (of_value p uri local value ends_in place spelled change plan answers) = node_put_new id usage selector t change answers

  from_free : (id : DocId) (usage : Usage) (selector : Selector) (t : Tree) (tag : ℕ) (spot : Result Spot NoParent) → PutsByEditTarget (server_state root c) (node_write id usage selector request) (t, tag) spot a → IsConditionReply request (Some tag) (node_exists t selector) false None
  from_free id usage selector t tag (Err none) h = absurd (stopped_never a _ (change_from_edit e) told h)
  from_free id usage selector t tag (Ok spot) h = behind_free request (Some tag) (node_exists t selector) (PutsFragment c (node_write id usage selector request) t spot a) a (change_from_edit e) told h

  node_put_passes : (id : DocId) (usage : Usage) (selector : Selector) (version : Option (Tree × ℕ)) → version_of c id ≡ version → PutsNodeIfStored (server_state root c) (node_write id usage selector request) version a → Passes c request a e
  node_put_passes id usage selector None is h = absurd (stopped_never a _ (change_from_edit e) told h)
  node_put_passes id usage selector (Some (t, tag)) is h =
      let held = node_put root c id usage selector (Some (t, tag)) request a (change_from_edit e) told h in
      let some : ◌≡◌ {A = Option (Tree × ℕ)} (Some (t, tag)) (Some (held.tree, held.tag)) = held.held in
      let both : ◌≡◌ {A = Tree × ℕ} (t, tag) (held.tree, held.tag) = cc in
      let put : NodePut c id usage selector t request a = subst (λ (x : Tree). NodePut c id usage selector x request a) (sym (ap (λ (x : Tree × ℕ). x.0) both)) held.put.put in
      passes_of id (node_exists t selector) (node_new id usage selector t put) (node_put_doc id usage selector t put)
      (subst (λ (v : Option (Tree × ℕ)). IsConditionReply request (tag_of v) (node_exists t selector) false None) (sym is) (from_free id usage selector t tag h.0 h.2))

  put_passes : (target : Target) (usage : Usage) → PutsTarget (server_state root c) target usage request a → Passes c request a e
  put_passes (Document id) usage h = document_put_passes id usage h
  put_passes (Node id selector) usage h = node_put_passes id usage selector (version_of c id) refl h
  put_passes (Deep auid home) usage h = absurd (stopped_never a _ (change_from_edit e) told h)
  put_passes (Feed mode tag id) usage h = absurd h
  put_passes (ElementFeed tag id selector raw) usage h = absurd h
  put_passes (Flat id service) usage h = absurd h

  document_deleted_passes : (id : DocId) (version : Option (Tree × ℕ)) → version_of c id ≡ version → DeletesDocumentIfStored c id version request a → Passes c request a e
  document_deleted_passes id None is h = absurd (stopped_never a _ (change_from_edit e) told h)
  document_deleted_passes id (Some (t, tag)) is h =
      let deleted = document_deleted c id (Some (t, tag)) request a (change_from_edit e) told h in
      let made = store_made c id RemoveDocument request.closes (delete_reply request.closes) a (change_from_edit e) told deleted.answers in
      let free = behind_free request (Some tag) true (a ≡ change_answer c id RemoveDocument request.closes (delete_reply request.closes)) a (change_from_edit e) told h in
      passes_of id true (λ none. let z : true ≡ false = none in absurd cc) made.of_document (subst (λ (v : Option (Tree × ℕ)). IsConditionReply request (tag_of v) true false None) (sym is) free)

  node_deleted_passes : (id : DocId) (usage : Usage) (selector : Selector) (version : Option (Tree × ℕ)) → version_of c id ≡ version → DeletesNodeIfStored c (node_write id usage selector request) version a → Passes c request a e
  node_deleted_passes id usage selector None is h = absurd (stopped_never a _ (change_from_edit e) told h)
  node_deleted_passes id usage selector (Some (t, tag)) is h =
      let deleted = node_deleted c id usage selector (Some (t, tag)) request a (change_from_edit e) told h in
      let made = store_made c id deleted.change request.closes (node_delete_reply request.closes) a (change_from_edit e) told deleted.answers in
      let Last : Type 0 = RemovesNode c (node_write id usage selector request) t a in
      let there = either_so (node_exists t selector) (AppliesConditions request (representation (Some tag) true) false a Last) a (plain_reply 404 request.closes) (change_from_edit e) told h in
      passes_of id true (λ none. let z : true ≡ false = none in absurd cc) made.of_document (subst (λ (v : Option (Tree × ℕ)). IsConditionReply request (tag_of v) true false None) (sym is) (behind_free request (Some tag) true Last a (change_from_edit e) told there))

  delete_passes : (target : Target) (usage : Usage) → DeletesTarget c target usage request a → Passes c request a e
  delete_passes (Document id) usage h = document_deleted_passes id (version_of c id) refl h
  delete_passes (Node id selector) usage h = node_deleted_passes id usage selector (version_of c id) refl h
  delete_passes (Deep auid home) usage h = absurd (stopped_never a _ (change_from_edit e) told h)
  delete_passes (Feed mode tag id) usage h = absurd h
  delete_passes (ElementFeed tag id selector raw) usage h = absurd h
  delete_passes (Flat id service) usage h = absurd h

-- a method that reports no change makes none
quiet_never : (method : Method) (closes : Bool) (c : Content) (a : Answer) (made : MadeChange) → ((status : ℕ) → reports_change method status ≡ false) → a.made ≡ Some made → Way method closes c a → ⊥
quiet_never method closes c a made quiet is (stays reply tells same answer) = stopped_never a reply made is answer
quiet_never method closes c a made quiet is (changes reply tells same id change note next asks store answer) = true≢false (sym tells ∙ quiet reply.status)

pub passes : (root : List ℕ) (c next : Content) (request : Request) (reply : SentReply) (e : Edit) → ContentStep root c request reply next (Some e) → Passes c request (answer_with_edit reply (Some e)) e
passes root c next request reply e does = by (method_of request.method) refl
  where
    never : (method : Method) → ((status : ℕ) → reports_change method status ≡ false) → method_of request.method ≡ method → ⊥
    never method quiet asks = quiet_never method request.closes c (answer_with_edit reply (Some e)) (change_from_edit e) quiet refl (subst (λ (m : Method). Way m request.closes c (answer_with_edit reply (Some e))) asks (way_of root c request (answer_with_edit reply (Some e)) does.answers))

    by : (method : Method) → method_of request.method ≡ method → Passes c request (answer_with_edit reply (Some e)) e
    by Get asks = absurd (never Get (λ _. refl) asks)
    by Head asks = absurd (never Head (λ _. refl) asks)
    by Other asks = absurd (never Other (λ _. refl) asks)
    by Put asks =
        let t = accepted root c next request reply e Put does asks in
        let enters = put_enters root c request t.0 (answer_with_edit reply (Some e)) (change_from_edit e) refl (by_target root c request (answer_with_edit reply (Some e)) t.0 Put t.1.means asks does.answers) in
        put_passes root c request (answer_with_edit reply (Some e)) e refl t.0 enters.usage enters.does
    by Delete asks =
        let t = accepted root c next request reply e Delete does asks in
        let enters = delete_enters root c request t.0 (answer_with_edit reply (Some e)) (change_from_edit e) refl (by_target root c request (answer_with_edit reply (Some e)) t.0 Delete t.1.means asks does.answers) in
        delete_passes root c request (answer_with_edit reply (Some e)) e refl t.0 enters.usage enters.does

-- ---- If-Match

abbrev outcome_of : Option ℕ → Bool → Option Preconditions → Outcome
outcome_of tag exists said = option_map_or (λ conditions. outcome_of_verdict (precondition_verdict conditions tag exists false)) said outcomes.Unreadable

first_holds : (tag : Option ℕ) (closes : Bool) (b y : Bool) → None ≡ outcome_reply (outcome_of_verdict (if not b then Failed else if y then Go else if false then Same else Failed)) tag closes → b ≡ true
first_holds tag closes true y h = refl
first_holds tag closes false y h = let z : None ≡ Some (plain_reply 412 closes) = h in cc

-- where nothing stops the request, its If-Match holds
pub matched : (request : Request) (tag : Option ℕ) (exists : Bool) (value : FieldValue) → IsConditionReply request tag exists false None → HasIfMatch request value → if_match_holds tag exists value ≡ true
matched request tag exists value free says = by free.1.0 free.1.1 (free.2 ∙ ap (λ (o : Outcome). outcome_reply o tag request.closes) free.1.2)
  where
    by : (said : Option Preconditions) → IsConditionsReading (fields_named (codes "if-match") request.fields) (fields_named (codes "if-none-match") request.fields) said
        → None ≡ outcome_reply (outcome_of tag exists said) tag request.closes → if_match_holds tag exists value ≡ true
    by None reads none = let z : None ≡ Some (plain_reply 400 request.closes) = none in absurd cc
    by (Some c) reads none =
        let here : Preconditions = record { if_match = value; if_none_match = c.if_none_match } in
        let same : Some c ≡ Some here = one_conditions (fields_named (codes "if-match") request.fields) (fields_named (codes "if-none-match") request.fields) (Some c) (Some here) reads (says, reads.1) in
        first_holds tag request.closes (if_match_holds tag exists value) (if_none_match_holds tag exists c.if_none_match)
        (none ∙ ap (λ (s : Option Preconditions). outcome_reply (outcome_of tag exists s) tag request.closes) same)

second_holds : (tag : Option ℕ) (closes : Bool) (b y : Bool) → None ≡ outcome_reply (outcome_of_verdict (if not b then Failed else if y then Go else if false then Same else Failed)) tag closes → y ≡ true
second_holds tag closes true true h = refl
second_holds tag closes true false h = let z : None ≡ Some (plain_reply 412 closes) = h in cc
second_holds tag closes false y h = let z : None ≡ Some (plain_reply 412 closes) = h in absurd cc

-- and so does its If-None-Match
pub none_matched : (request : Request) (tag : Option ℕ) (exists : Bool) (value : FieldValue) → IsConditionReply request tag exists false None → HasIfNoneMatch request value → if_none_match_holds tag exists value ≡ true
none_matched request tag exists value free says = by free.1.0 free.1.1 (free.2 ∙ ap (λ (o : Outcome). outcome_reply o tag request.closes) free.1.2)
  where
    by : (said : Option Preconditions) → IsConditionsReading (fields_named (codes "if-match") request.fields) (fields_named (codes "if-none-match") request.fields) said
        → None ≡ outcome_reply (outcome_of tag exists said) tag request.closes → if_none_match_holds tag exists value ≡ true
    by None reads none = let z : None ≡ Some (plain_reply 400 request.closes) = none in absurd cc
    by (Some c) reads none =
        let here : Preconditions = record { if_match = c.if_match; if_none_match = value } in
        let same : Some c ≡ Some here = one_conditions (fields_named (codes "if-match") request.fields) (fields_named (codes "if-none-match") request.fields) (Some c) (Some here) reads (reads.0, says) in
        second_holds tag request.closes (if_match_holds tag exists c.if_match) (if_none_match_holds tag exists value)
        (none ∙ ap (λ (s : Option Preconditions). outcome_reply (outcome_of tag exists s) tag request.closes) same)

is_absent : (b : Bool) → not b ≡ true → b ≡ false
is_absent true h = let z : false ≡ true = h in cc
is_absent false h = refl

pub creates_only : (root : List ℕ) (c next : Content) (request : Request) (reply : SentReply) (e : Edit) → ContentStep root c request reply next (Some e) → HasIfNoneMatch request Star → reply.status ≡ 201
creates_only root c next request reply e does says =
    let p = passes root c next request reply e does in
    p.is_new (is_absent p.exists (none_matched request (tag_of (version_of c e.doc)) p.exists Star p.free says))

-- ---- tags

and_false : (b : Bool) → (b && false) ≡ false
and_false true = refl
and_false false = refl

pub not_own : (t : EntityTag) → matches_etag_strongly None t ≡ false
unfolding matches_etag_strongly matches_etag_weakly
not_own t = and_false (not t.weak)

pub none_own : (tags : List EntityTag) → list_any (matches_etag_strongly None) tags ≡ true → ⊥
none_own [] h = true≢false (sym h)
none_own (t ∷ ts) h = none_own ts (ap (λ (b : Bool). b || list_any (matches_etag_strongly None) ts) (sym (not_own t)) ∙ h)

or_false : (b : Bool) → (b || false) ≡ true → b ≡ true
or_false true h = refl
or_false false h = h

pub only_own : (own : Option ℕ) (t : EntityTag) → list_any (matches_etag_strongly own) (t ∷ []) ≡ true → matches_etag_strongly own t ≡ true
only_own own t h = or_false (matches_etag_strongly own t) h

tag_text_is : (k : ℕ) (t : EntityTag) → matches_etag_strongly (Some k) t ≡ true → t.opaque ≡ decimal k
unfolding matches_etag_strongly matches_etag_weakly
tag_text_is k t h = (bytes_eq-Decides t.opaque (decimal k)).0 (and_parts (not t.weak) (bytes_eq t.opaque (decimal k)) h).1

pub one_number : (j k : ℕ) (t : EntityTag) → j < 18446744073709551616 → k < 18446744073709551616 → matches_etag_strongly (Some j) t ≡ true → matches_etag_strongly (Some k) t ≡ true → j ≡ k
one_number j k t low small is same = decimal_injective j k low small (sym (tag_text_is j t is) ∙ tag_text_is k t same)
