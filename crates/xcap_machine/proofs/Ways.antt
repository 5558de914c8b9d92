-- The two ways to answer a request, each with a reply that closes where the request does: with a
-- status that reports no change, and nothing is changed; or with one that reports a change
-- which the store makes, and which may be asked for where each stored document is sound.
use Rattle.std.proofs.Common.{◌≡◌, ◌≤◌, ℕ, Bool, true, false, not, ◌||◌, ◌==◌, List, [], is_some, Option, None, Some, Result, Ok, Err, IfOk, refl, sym, subst, arith, encode_utf8_all, ◌∙◌}
use Rattle.xml_tree.specs.Tree.{Tree, height}
use Rattle.xml_tree.specs.Proper.{IsProperTree}
use Rattle.tree_text.specs.Faults.{IsBodyResult, IsTextResult}
use Rattle.tree_text.specs.Spellings.{ReadsTree, ReadsValue}
use Rattle.tree_text.proofs.SpellingLemmas.{spelled_answer, spelled_body}
use Rattle.xml_tree.specs.Print.{document_print}
use Rattle.tree_text.specs.declared.fault.TextFault.{TextFault}
use Rattle.tree_text.specs.declared.fault.ValueFault.{ValueFault}
use Rattle.tree_text.specs.declared.fault.ValueFault.TheVariants as values
use Rattle.tree_text.proofs.ProperBodies.{body_good}
use Rattle.tree_text.proofs.ReadProper.{answer_proper}
use Rattle.usage_docs.specs.Validation.{HasFirstFault}
use Rattle.usage_docs.specs.declared.validation.Fault.{Fault}
use Rattle.doc_names.specs.DocIds.{IsAddressable, id_text}
use Rattle.doc_names.specs.Usages.{usage_of}
use Rattle.doc_names.specs.declared.usages.Usage.{Usage}
use Rattle.doc_names.specs.declared.doc_id.DocId.{DocId}
use Rattle.node_select.specs.declared.selector.End.{End}
use Rattle.node_select.specs.declared.selector.End.TheVariants as ends
use Rattle.node_select.specs.declared.selector.Selector.{Selector}
use Rattle.xcap_uri.specs.Ancestors.{ancestor_uri, home_uri}
use Rattle.xcap_uri.specs.Targets.{IsReadableTarget, IsTargetResult}
use Rattle.xcap_uri.specs.declared.fault.UriFault.{UriFault}
use Rattle.xcap_uri.specs.declared.fault.UriFault.TheVariants.{OutsideRoot, UnknownAuid, BadShape, BadEscape, BadQuery, UnboundPrefix, BadSelector}
use Rattle.xcap_uri.specs.declared.target.Mode.{Mode}
use Rattle.xcap_uri.specs.declared.target.Target.{Target}
use Rattle.xcap_uri.specs.declared.target.Target.TheVariants.{Document, Node, Deep, Feed, ElementFeed, Flat}
use Rattle.xcap_uri.proofs.TargetAnswers.{readable_target}
use Rattle.edit_ops.specs.declared.change.Change.{Change}
use Rattle.edit_ops.specs.declared.change.Change.TheVariants.{RemoveDocument}
use Rattle.edit_rules.specs.AttributePuts.{IsAttrPlan, IsValuePlan, IsWritable}
use Rattle.edit_rules.specs.Deletions.{IsDeletePlan}
use Rattle.edit_rules.specs.ElementPuts.{FitsWithinLevelsAt, IsProperAt, IsPutPlan}
use Rattle.edit_rules.specs.Spots.{IsSpot, IsSpotOf}
use Rattle.edit_rules.specs.declared.edit_refusal.EditRefusal.{EditRefusal}
use Rattle.edit_rules.specs.declared.edit_refusal.EditRefusal.TheVariants as plans
use Rattle.edit_rules.specs.declared.spot.NoParent.{NoParent}
use Rattle.edit_rules.specs.declared.spot.Spot.{Spot}
use Rattle.edit_rules.specs.declared.spot.Spot.TheVariants.{Over, Under, Beside, Value}
use Rattle.edit_rules.proofs.StaysProper.{delete_leaves, put_leaves, written_leaves}
use Rattle.edit_rules.proofs.Twice.{deleted_is, put_is, written_change, written_is}
use Rattle.edit_ops.specs.Notes.{Note}
use Rattle.patch_rules.specs.Notices.{gone_notice}
use Rattle.patch_write.specs.Modes.{notice_of}
use Rattle.reply_text.specs.ReplyHeads.{SentReply, plain_reply}
use Rattle.reply_text.specs.declared.media_types.MediaType.{MediaType}
use Rattle.reply_text.specs.declared.media_types.MediaType.TheVariants as medias
use Rattle.reply_bodies.specs.declared.conflicts.ErrorBody.{ErrorBody}
use Rattle.reply_bodies.specs.declared.conflicts.ErrorBody.TheVariants as conflicts
use Rattle.http_wire.specs.declared.request.Request.{Request}
use Rattle.request_checks.specs.Conditions.{outcome_reply}
use Rattle.request_checks.specs.MediaTypes.{document_media_type, has_media_type}
use Rattle.request_checks.specs.Methods.{reply_for_method, method_of, is_reading}
use Rattle.request_checks.specs.Rights.{is_allowed}
use Rattle.request_checks.specs.declared.conditions.Outcome.{Outcome}
use Rattle.request_checks.specs.declared.conditions.Outcome.TheVariants.{Unreadable, Go, NotModified, Failed}
use Rattle.request_checks.specs.declared.method.Method.{Method}
use Rattle.request_checks.specs.declared.method.Method.TheVariants.{Get, Head, Put, Delete, Other}
use Rattle.reply_bodies.specs.Nodes.{encode_optional, found_text, node_media_type}
use Rattle.store_core.specs.ChangePreconditions.{MayRequest, MayBeDocumentFor}
use Rattle.store_core.specs.DocumentChanges.{change_result}
use Rattle.store_core.specs.ValidStates.{IsUserHome}
use Rattle.store_core.specs.Since.{ChangesSince, Gone, Unknown, ReportedChanges, since}
use Rattle.store_core.specs.declared.refusal.StoreRefusal.{StoreRefusal}
use Rattle.store_core.specs.declared.refusal.StoreRefusal.TheVariants as refusals
use Rattle.xcap_machine.specs.Answers.{Answer, AppliesConditions, error_reply, found_reply, not_allowed_reply, reply_only}
use Rattle.xcap_machine.specs.StepOutcomes.{reports_change}
use Rattle.xcap_machine.specs.ElementFeeds.{AnswersElementQuery}
use Rattle.list_resolve.specs.declared.fault.FlatFault.{FlatFault}
use Rattle.list_resolve.specs.declared.fault.FlatFault.TheVariants.{NoService, TooWide, TooLarge}
use Rattle.xcap_machine.specs.Feeds.{sends_notice, changes_since_answer}
use Rattle.xcap_machine.specs.FlatLists.{flat_answer}
use Rattle.xcap_machine.specs.ReadRequests.{SendsDocument, AnswersWithFound, SendsNode}
use Rattle.xcap_machine.specs.Requests.{AnswersByTarget, IsAnswer, fault_status}
use Rattle.xcap_machine.specs.inner.AnswerCases.{AnswersByMethod, AnswersByUser, ReadsTarget as Reads}
use Rattle.xcap_machine.specs.StandardRequests.{DeletesTarget, IsWritableTarget, PutsTarget, auid_of, home_of, is_read_only, allows_method}
use Rattle.xcap_machine.specs.Resources.{Resource, absent, beyond_limit, there, version_of}
use Rattle.xcap_machine.specs.NodeWrites.{RemovesNode, PutsAtEditTarget, PutsFragment, PutsByEditTarget, node_delete_reply, node_exists, max_height_at, plan_answer, plan_refusal_reply, planned_put_answer, edit_target_scope}
use Rattle.xcap_machine.specs.DocumentWrites.{WritesIfStored, PutsBody, PutsDocument, PutsParsedBody, change_answer, delete_reply, fault_conflict, put_answer, put_change, put_reply, refusal_reply, text_conflict}
use Rattle.xcap_machine.specs.inner.AnswerCases.{DeletesDocumentIfStored, DeletesNodeIfStored, PutsElementText, PutsNodeIfStored, PutsValueText, IsAnswerByTarget, PutsParsedText, judgement_answer, version_tag as tag_of, AnswersUnlessStopped}
use Rattle.xcap_machine.specs.inner.RecordValues.{element_query, feed_query, read_request, representation, server_state, node_write}
use Rattle.store_core.proofs.SoundHeld.{AllSound}
use Rattle.store_core.specs.Contents.{StoreContents as Content}
use Rattle.xcap_machine.proofs.PutPremises.{asks_to_delete, asks_to_edit, asks_to_put, sound_at, users_write}
use Rattle.xcap_machine.proofs.AttributeAddresses.{writable_target}
use Rattle.xcap_machine.proofs.Cases.{either}
use Rattle.xcap_machine.proofs.ChangeAnswers.{as_the_store, told_by_store}

pub data Way (method : Method) (closes : Bool) (c : Content) (a : Answer) : Type 0 where
  stays : (reply : SentReply) → reports_change method reply.status ≡ false → reply.closes ≡ closes → a ≡ reply_only reply → Way method closes c a
  changes : (reply : SentReply) → reports_change method reply.status ≡ true → reply.closes ≡ closes → (id : DocId) (change : Change) (note : Note) (next : Content)
      → (AllSound c → MayRequest c id change) → change_result c id change ≡ Ok (note, next) → a ≡ record { reply = reply; made = Some (id, note) } → Way method closes c a

-- ---- statuses that report no change

neither : (x y : Bool) → x ≡ false → y ≡ false → (x || y) ≡ false
neither false false p q = refl
neither true y p q = let no : ⊥ = cc in absurd no
neither false true p q = let no : ⊥ = cc in absurd no

pub tells_none : (method : Method) (status : ℕ) → (status == 200) ≡ false → (status == 201) ≡ false → reports_change method status ≡ false
tells_none Get status p q = refl
tells_none Head status p q = refl
tells_none Put status p q = neither (status == 200) (status == 201) p q
tells_none Delete status p q = p
tells_none Other status p q = refl

module _ (method : Method) (c : Content) (request : Request) (a : Answer) where
  refuses : (reply : SentReply) → (reply.status == 200) ≡ false → (reply.status == 201) ≡ false → reply.closes ≡ request.closes → a ≡ reply_only reply → Way method request.closes c a
  refuses reply p q closes is = stays reply (tells_none method reply.status p q) closes is

  -- a status alone
  only : (status : ℕ) → (status == 200) ≡ false → (status == 201) ≡ false → a ≡ reply_only (plain_reply status request.closes) → Way method request.closes c a
  only status p q is = refuses (plain_reply status request.closes) p q refl is

  conflicts_so : (body : ErrorBody) → a ≡ reply_only (error_reply body request.closes) → Way method request.closes c a
  conflicts_so body is = refuses (error_reply body request.closes) refl refl refl is

  -- the reply of a condition, and what follows where there is none
  by_outcome : (o : Outcome) (tag : Option ℕ) (P : Type 0) → (P → Way method request.closes c a) → AnswersUnlessStopped (outcome_reply o tag request.closes) a P → Way method request.closes c a
  by_outcome Unreadable tag P so is = refuses _ refl refl refl is
  by_outcome Go tag P so is = so is
  by_outcome NotModified tag P so is = refuses _ refl refl refl is
  by_outcome Failed tag P so is = refuses _ refl refl refl is

  behind : (tag : Option ℕ) (exists reading : Bool) (P : Type 0) → (P → Way method request.closes c a) → AppliesConditions request (representation tag exists) reading a P → Way method request.closes c a
  behind tag exists reading P so is = by_outcome is.1.0 tag P so (subst (λ (stop : Option SentReply). AnswersUnlessStopped stop a P) is.1.2 is.2)

  store_refuses : (refusal : StoreRefusal) → a ≡ reply_only (refusal_reply refusal request.closes) → Way method request.closes c a
  store_refuses (refusals.ServiceTaken clash) is = refuses _ refl refl refl is
  store_refuses (refusals.TooLarge len) is = refuses _ refl refl refl is
  store_refuses refusals.TooMany is = refuses _ refl refl refl is
  store_refuses (refusals.StoreFull total) is = refuses _ refl refl refl is
  store_refuses refusals.HomeTooMany is = refuses _ refl refl refl is
  store_refuses (refusals.HomeFull total) is = refuses _ refl refl refl is
  store_refuses refusals.NoNumber is = refuses _ refl refl refl is

  -- a change that may be asked for, where each reply to one that is made reports it
  by_store : (id : DocId) (change : Change) (reply : Note → SentReply) → (AllSound c → MayRequest c id change) → ((note : Note) → reports_change method (reply note).status ≡ true) → ((note : Note) → (reply note).closes ≡ request.closes)
      → (made : Result (Note × Content) StoreRefusal) → change_result c id change ≡ made → a ≡ told_by_store id request.closes reply made → Way method request.closes c a
  by_store id change reply asks tells closes (Err refusal) e is = store_refuses refusal is
  by_store id change reply asks tells closes (Ok (note, next)) e is = changes (reply note) (tells note) (closes note) id change note next asks e is

  plan_refuses : (why : EditRefusal) → a ≡ reply_only (plan_refusal_reply why request.closes) → Way method request.closes c a
  plan_refuses plans.NotFound is = refuses _ refl refl refl is
  plan_refuses plans.CannotInsert is = refuses _ refl refl refl is
  plan_refuses plans.CannotDelete is = refuses _ refl refl refl is
  plan_refuses (plans.Faulty fault) is = conflicts_so (fault_conflict fault) is

  -- a plan, whose change may be asked for, where each reply to one that is made reports it
  by_plan : (id : DocId) (reply : Note → SentReply) (plan : Result Change EditRefusal) → ((change : Change) → plan ≡ Ok change → AllSound c → MayRequest c id change)
      → ((note : Note) → reports_change method (reply note).status ≡ true) → ((note : Note) → (reply note).closes ≡ request.closes) → a ≡ plan_answer c id request.closes reply plan → Way method request.closes c a
  by_plan id reply (Err why) asks tells closes is = plan_refuses why is
  by_plan id reply (Ok change) asks tells closes is = by_store id change reply (asks change refl) tells closes (change_result c id change) refl (is ∙ as_the_store c id change request.closes reply)

  no_usage : (u : Option Usage) (P : Usage → Type 0) → ((usage : Usage) → u ≡ Some usage → P usage → Way method request.closes c a) → WritesIfStored u request a P → Way method request.closes c a
  no_usage None P so is = only 403 refl refl is
  no_usage (Some usage) P so is = so usage refl is

-- ---- reading

asked_closes : (method : Method) (reply : SentReply) → (reply_for_method method reply).closes ≡ reply.closes
asked_closes Get reply = refl
asked_closes Head reply = refl
asked_closes Put reply = refl
asked_closes Delete reply = refl
asked_closes Other reply = refl

module _ (method : Method) (request : Request) (c : Content) (a : Answer) (quiet : (status : ℕ) → reports_change method status ≡ false) where
  found_way : (text : Option (List ℕ)) (tag : ℕ) (media : MediaType) → AnswersWithFound text tag media (read_request method request) a → Way method request.closes c a
  found_way None tag media is = only method c request a 404 refl refl is
  found_way (Some text) tag media is =
      let reply = reply_for_method method (found_reply (Some tag) media text request.closes) in
      behind method c request a (Some tag) true true (a ≡ reply_only reply) (stays reply (quiet reply.status) (asked_closes method (found_reply (Some tag) media text request.closes))) is

  document_way : (r : Resource) (media : MediaType) → SendsDocument r media (read_request method request) a → Way method request.closes c a
  document_way absent media is = only method c request a 404 refl refl is
  document_way beyond_limit media is = only method c request a 507 refl refl is
  document_way (there t tag) media is = found_way (Some (encode_utf8_all (document_print t))) tag media is

  node_way : (r : Resource) (selector : Selector) → SendsNode r selector (read_request method request) a → Way method request.closes c a
  node_way absent selector is = only method c request a 404 refl refl is
  node_way beyond_limit selector is = only method c request a 507 refl refl is
  node_way (there t tag) selector is = found_way (encode_optional (found_text t selector)) tag (node_media_type selector.end) is

  notice_way : (notice : Tree) → a ≡ sends_notice notice (read_request method request) → Way method request.closes c a
  notice_way notice is =
      let sent = found_reply None medias.Diff (encode_utf8_all (document_print notice)) request.closes in
      stays (reply_for_method method sent) (quiet (reply_for_method method sent).status) (asked_closes method sent) is

  story_way : (root : List ℕ) (mode : Mode) (tag : ℕ) (id : DocId) (changes_since : ChangesSince) → a ≡ changes_since_answer root (feed_query mode tag id) changes_since (read_request method request) → Way method request.closes c a
  story_way root mode tag id Gone is = notice_way (gone_notice root (id_text id) tag) is
  story_way root mode tag id Unknown is = only method c request a 410 refl refl is
  story_way root mode tag id (ReportedChanges ns) is = notice_way (notice_of mode root (id_text id) tag ns) is

  element_way : (root : List ℕ) (tag : ℕ) (id : DocId) (selector : Selector) (raw : List ℕ) (changes_since : ChangesSince) → AnswersElementQuery (server_state root c) (element_query tag id selector raw) changes_since (read_request method request) a → Way method request.closes c a
  element_way root tag id selector raw Gone is = notice_way (gone_notice root (id_text id) tag) is
  element_way root tag id selector raw Unknown is = only method c request a 410 refl refl is
  element_way root tag id selector raw (ReportedChanges ns) is = notice_way is.0 is.2

  flat_way : (answer : Result Tree FlatFault) → a ≡ flat_answer answer (read_request method request) → Way method request.closes c a
  flat_way (Ok t) is =
      let sent = found_reply None medias.ResourceLists (encode_utf8_all (document_print t)) request.closes in
      stays (reply_for_method method sent) (quiet (reply_for_method method sent).status) (asked_closes method sent) is
  flat_way (Err NoService) is = only method c request a 404 refl refl is
  flat_way (Err TooWide) is = only method c request a 507 refl refl is
  flat_way (Err (TooLarge len)) is = only method c request a 507 refl refl is

  reads_way : (root : List ℕ) (target : Target) → Reads (server_state root c) target (read_request method request) a → Way method request.closes c a
  reads_way root (Document id) is = document_way is.0 (document_media_type id.auid) is.2
  reads_way root (Node id selector) is = node_way is.0 selector is.2
  reads_way root (Deep auid home) is = only method c request a 404 refl refl is
  reads_way root (Feed mode tag id) is = story_way root mode tag id (since c id tag) is
  reads_way root (ElementFeed tag id selector raw) is = element_way root tag id selector raw (since c id tag) is
  reads_way root (Flat id service) is = flat_way is.0 is.2

-- ---- PUT

put_tells : (exists closes : Bool) (note : Note) → reports_change Put (put_reply exists closes note).status ≡ true
put_tells true closes note = refl
put_tells false closes note = refl

put_closes : (exists closes : Bool) (note : Note) → (put_reply exists closes note).closes ≡ closes
put_closes true closes note = refl
put_closes false closes note = refl

-- a fragment at its edit target
pub proper_there : (t : Tree) (spot : Spot) (e : Tree) → IsProperTree (edit_target_scope t spot) e → IsProperAt t spot e
proper_there t (Over p) e h = h
proper_there t (Under q) e h = h
proper_there t Beside e h = tt
proper_there t (Value p) e h = tt

pub room_there : (spot : Spot) (e : Tree) → height e ≤ max_height_at spot → FitsWithinLevelsAt spot e
room_there (Over p) e h = omega (arith, h)
room_there (Under q) e h = omega (arith, h)
room_there Beside e h = tt
room_there (Value p) e h = tt

module _ (c : Content) (id : DocId) (request : Request) (a : Answer) where
  module _ (readable : IsAddressable id) (users : IsUserHome id.home) (usage : Usage) (known : usage_of id.auid ≡ Some usage) where
    judged : (t : Tree) → IsTextResult 64 [] request.body (Ok t) → (judgement : Option Fault) → HasFirstFault usage t judgement → a ≡ judgement_answer judgement request.closes (put_answer c id request.closes t) → Way Put request.closes c a
    judged t e (Some fault) j is = conflicts_so Put c request a (fault_conflict fault) is
    judged t e None j is =
        let exists = is_some (version_of c id) in
        let good = answer_proper 64 [] request.body t e in
        let may : MayBeDocumentFor (Some usage) t = record { proper = good.0; low = good.1; faultless = j } in
        let asks = asks_to_put c id t readable users (subst (λ (x : Option Usage). MayBeDocumentFor x t) (sym known) may) in
        by_store Put c request a id (put_change exists t) (put_reply exists request.closes) (λ _. asks) (put_tells exists request.closes) (put_closes exists request.closes) (change_result c id (put_change exists t)) refl
        (is ∙ as_the_store c id (put_change exists t) request.closes (put_reply exists request.closes))

    text_put : (read : Result Tree TextFault) → ReadsTree 64 [] request.body read → PutsParsedText usage read request.closes (put_answer c id request.closes) a → Way Put request.closes c a
    text_put (Err fault) e is = conflicts_so Put c request a (text_conflict conflicts.NotWellFormed fault) is
    text_put (Ok t) e (judgement, j, is) = judged t (spelled_answer 64 [] request.body t e) judgement j is

    body_put : PutsBody usage (document_media_type id.auid) request (put_answer c id request.closes) a → Way Put request.closes c a
    body_put is =
        either (has_media_type (document_media_type id.auid) request.fields) (PutsParsedBody usage request (put_answer c id request.closes) a) (a ≡ reply_only (plain_reply 415 request.closes))
        (λ _ spelled. text_put spelled.0 spelled.1 spelled.2) (λ _. only Put c request a 415 refl refl) is

    document_put : PutsDocument c id usage request a → Way Put request.closes c a
    document_put is =
        behind Put c request a (tag_of (version_of c id)) (is_some (version_of c id)) false (PutsBody usage (document_media_type id.auid) request (put_answer c id request.closes) a) body_put is

  -- ---- PUT of nodes

  module _ (usage : Usage) (selector : Selector) (t : Tree) (tag : ℕ) (known : usage_of id.auid ≡ Some usage) (held : ◌≡◌ {A = Option (Tree × ℕ)} (version_of c id) (Some (t, tag))) where
    abbrev reply : Note → SentReply
    reply = put_reply (node_exists t selector) request.closes

    element_planned : (spot : Spot) → IsSpotOf t selector spot → (e : Tree) → IsTextResult (max_height_at spot) (edit_target_scope t spot) request.body (Ok e)
        → (plan : Result Change EditRefusal) → IsPutPlan (record { usage = usage; document = t; steps = selector.steps }) spot e plan → a ≡ planned_put_answer c (node_write id usage selector request) t plan → Way Put request.closes c a
    element_planned spot is e read plan planned answer =
        let good = answer_proper (max_height_at spot) (edit_target_scope t spot) request.body e read in
        by_plan Put c request a id reply plan (λ change made all.
        let sound = sound_at c id usage t tag known held all in
        let here : IsPutPlan (record { usage = usage; document = t; steps = selector.steps }) spot e (Ok change) = subst (λ (r : Result Change EditRefusal). IsPutPlan (record { usage = usage; document = t; steps = selector.steps }) spot e r) made planned in
        let leaves = put_leaves usage t selector spot e change here is sound.proper sound.low (proper_there t spot e good.0) (room_there spot e good.1) in
        asks_to_edit c id usage t tag change known held leaves (put_is usage t selector.steps spot e change here).faultless)
        (put_tells (node_exists t selector) request.closes) (put_closes (node_exists t selector) request.closes) answer

    element_text : (spot : Spot) → IsSpotOf t selector spot → (read : Result Tree TextFault) → ReadsTree (max_height_at spot) (edit_target_scope t spot) request.body read
        → PutsElementText c (node_write id usage selector request) t spot read a → Way Put request.closes c a
    element_text spot is (Err fault) read answer = conflicts_so Put c request a (text_conflict conflicts.NotXmlFrag fault) answer
    element_text spot is (Ok e) read answer = element_planned spot is e (spelled_answer (max_height_at spot) (edit_target_scope t spot) request.body e read) answer.0 answer.1 answer.2

    value_planned : (p : List ℕ) (uri local value : List ℕ) → selector.end ≡ ends.Attribute uri local → IsWritable uri local → IsBodyResult request.body (Ok value)
        → (plan : Result Change EditRefusal) → IsAttrPlan (record { usage = usage; document = t; steps = selector.steps }) selector.end p value plan → a ≡ planned_put_answer c (node_write id usage selector request) t plan → Way Put request.closes c a
    value_planned p uri local value ends_so may read plan planned answer =
        by_plan Put c request a id reply plan (λ change made all.
        let sound = sound_at c id usage t tag known held all in
        let by_end : IsValuePlan (record { usage = usage; document = t; steps = selector.steps }) (record { path = p; uri = uri; local = local }) value plan = subst (λ (end : End). IsAttrPlan (record { usage = usage; document = t; steps = selector.steps }) end p value plan) ends_so planned in
        let here : IsValuePlan (record { usage = usage; document = t; steps = selector.steps }) (record { path = p; uri = uri; local = local }) value (Ok change) = subst (λ (r : Result Change EditRefusal). IsValuePlan (record { usage = usage; document = t; steps = selector.steps }) (record { path = p; uri = uri; local = local }) value r) made by_end in
        let written = written_is usage t selector.steps uri local p value change here in
        let leaves = written_leaves usage t selector.steps uri local p value change written sound.proper sound.low may (body_good request.body (Ok value) read) in
        asks_to_edit c id usage t tag change known held leaves (written_change usage t selector.steps uri local p value change written))
        (put_tells (node_exists t selector) request.closes) (put_closes (node_exists t selector) request.closes) answer

    value_text : (p : List ℕ) (uri local : List ℕ) → selector.end ≡ ends.Attribute uri local → IsWritable uri local → (read : Result (List ℕ) ValueFault) → ReadsValue request.body read
        → PutsValueText c (node_write id usage selector request) t p read a → Way Put request.closes c a
    value_text p uri local ends_so may (Err values.NotUtf8) read answer = conflicts_so Put c request a conflicts.NotUtf8 answer
    value_text p uri local ends_so may (Err (values.NotValue place)) read answer = conflicts_so Put c request a conflicts.NotXmlAttValue answer
    value_text p uri local ends_so may (Ok value) read answer = value_planned p uri local value ends_so may (spelled_body request.body value read) answer.0 answer.1 answer.2

    put_at : (spot : Spot) → IsSpotOf t selector spot → IsWritableTarget (Node id selector) → PutsAtEditTarget c (node_write id usage selector request) t spot a → Way Put request.closes c a
    put_at (Over p) is may answer = element_text (Over p) is answer.0 answer.1 answer.2
    put_at (Under q) is may answer = element_text (Under q) is answer.0 answer.1 answer.2
    put_at Beside is may answer = element_text Beside is answer.0 answer.1 answer.2
    put_at (Value p) is may answer = value_text p is.0.0 is.0.1.0 is.0.1.1 (may is.0.0 is.0.1.0 is.0.1.1) answer.0 answer.1 answer.2

    fragment_put : (spot : Spot) → IsSpotOf t selector spot → IsWritableTarget (Node id selector) → PutsFragment c (node_write id usage selector request) t spot a → Way Put request.closes c a
    fragment_put spot is may answer =
        either (has_media_type (node_media_type selector.end) request.fields) (PutsAtEditTarget c (node_write id usage selector request) t spot a) (a ≡ reply_only (plain_reply 415 request.closes))
        (λ _. put_at spot is may) (λ _. only Put c request a 415 refl refl) answer

    put_from : (root : List ℕ) (spot : Result Spot NoParent) → IsSpot t selector spot → IsWritableTarget (Node id selector) → PutsByEditTarget (server_state root c) (node_write id usage selector request) (t, tag) spot a → Way Put request.closes c a
    put_from root (Err none) is may answer = conflicts_so Put c request a (conflicts.NoParent (ancestor_uri root id t selector.steps)) answer
    put_from root (Ok spot) is may answer =
        behind Put c request a (Some tag) (node_exists t selector) false (PutsFragment c (node_write id usage selector request) t spot a) (fragment_put spot is may) answer

  node_put : (root : List ℕ) (usage : Usage) (selector : Selector) (version : Option (Tree × ℕ)) → version_of c id ≡ version → usage_of id.auid ≡ Some usage → IsWritableTarget (Node id selector)
      → PutsNodeIfStored (server_state root c) (node_write id usage selector request) version a → Way Put request.closes c a
  node_put root usage selector None held known may is = conflicts_so Put c request a (conflicts.NoParent (home_uri root id.auid id.home)) is
  node_put root usage selector (Some (t, tag)) held known may is = put_from usage selector t tag known held root is.0 is.1 may is.2

  -- ---- DELETE

  document_deleted : (version : Option (Tree × ℕ)) → version_of c id ≡ version → DeletesDocumentIfStored c id version request a → Way Delete request.closes c a
  document_deleted None e is = only Delete c request a 404 refl refl is
  document_deleted (Some (t, tag)) e is =
      behind Delete c request a (Some tag) true false (a ≡ change_answer c id RemoveDocument request.closes (delete_reply request.closes))
      (λ so. by_store Delete c request a id RemoveDocument (delete_reply request.closes) (λ _. asks_to_delete c id t tag e) (λ note. refl) (λ note. refl) (change_result c id RemoveDocument) refl
      (so ∙ as_the_store c id RemoveDocument request.closes (delete_reply request.closes))) is

  node_cut : (usage : Usage) (selector : Selector) (t : Tree) (tag : ℕ) → ◌≡◌ {A = Option (Tree × ℕ)} (version_of c id) (Some (t, tag)) → usage_of id.auid ≡ Some usage → RemovesNode c (node_write id usage selector request) t a → Way Delete request.closes c a
  node_cut usage selector t tag held known is =
      by_plan Delete c request a id (node_delete_reply request.closes) is.0 (λ change made all.
      let sound = sound_at c id usage t tag known held all in
      let here : IsDeletePlan usage t selector (Ok change) = subst (λ (r : Result Change EditRefusal). IsDeletePlan usage t selector r) made is.1 in
      asks_to_edit c id usage t tag change known held (delete_leaves usage t selector change here sound.proper sound.low) (deleted_is usage t selector change here).faultless)
      (λ note. refl) (λ note. refl) is.2

  node_deleted : (usage : Usage) (selector : Selector) (version : Option (Tree × ℕ)) → version_of c id ≡ version → usage_of id.auid ≡ Some usage → DeletesNodeIfStored c (node_write id usage selector request) version a → Way Delete request.closes c a
  node_deleted usage selector None held known is = only Delete c request a 404 refl refl is
  node_deleted usage selector (Some (t, tag)) held known is =
      let Last : Type 0 = RemovesNode c (node_write id usage selector request) t a in
      either (node_exists t selector) (AppliesConditions request (representation (Some tag) true) false a Last) (a ≡ reply_only (plain_reply 404 request.closes))
      (λ _. behind Delete c request a (Some tag) true false Last (node_cut usage selector t tag held known)) (λ _. only Delete c request a 404 refl refl) is

-- ---- all in order

module _ (root : List ℕ) (c : Content) (request : Request) (a : Answer) where
  target_put : (target : Target) → IsReadableTarget target → IsWritableTarget target → IsUserHome (home_of target) → (usage : Usage) → usage_of (auid_of target) ≡ Some usage → PutsTarget (server_state root c) target usage request a → Way Put request.closes c a
  target_put (Document id) readable may users usage known is = document_put c id request a readable users usage known is
  target_put (Node id selector) readable may users usage known is = node_put c id request a root usage selector (version_of c id) refl known may is
  target_put (Deep auid home) readable may users usage known is = conflicts_so Put c request a (conflicts.NoParent (home_uri root auid home)) is
  target_put (Feed mode tag id) readable may users usage known is = absurd is
  target_put (ElementFeed tag id selector raw) readable may users usage known is = absurd is
  target_put (Flat id service) readable may users usage known is = absurd is

  target_deleted : (target : Target) (usage : Usage) → usage_of (auid_of target) ≡ Some usage → DeletesTarget c target usage request a → Way Delete request.closes c a
  target_deleted (Document id) usage known is = document_deleted c id request a (version_of c id) refl is
  target_deleted (Node id selector) usage known is = node_deleted c id request a usage selector (version_of c id) refl known is
  target_deleted (Deep auid home) usage known is = only Delete c request a 404 refl refl is
  target_deleted (Feed mode tag id) usage known is = absurd is
  target_deleted (ElementFeed tag id selector raw) usage known is = absurd is
  target_deleted (Flat id service) usage known is = absurd is

  method_way : (target : Target) (method : Method) → IsReadableTarget target → IsWritableTarget target → is_allowed (not (is_reading method)) (auid_of target) (home_of target) request.fields ≡ true
      → AnswersByMethod (server_state root c) target method request a → Way method request.closes c a
  method_way target Get readable may allowed is = reads_way Get request c a (λ _. refl) root target is
  method_way target Head readable may allowed is = reads_way Head request c a (λ _. refl) root target is
  method_way target Put readable may allowed is =
      no_usage Put c request a (usage_of (auid_of target)) (λ usage. PutsTarget (server_state root c) target usage request a)
      (target_put target readable may (users_write (auid_of target) (home_of target) request.fields allowed)) is
  method_way target Delete readable may allowed is =
      no_usage Delete c request a (usage_of (auid_of target)) (λ usage. DeletesTarget c target usage request a) (λ usage known. target_deleted target usage known) is
  method_way target Other readable may allowed is = absurd is

  user_way : (target : Target) (method : Method) → IsReadableTarget target → IsWritableTarget target → AnswersByUser (server_state root c) target method request a → Way method request.closes c a
  user_way target method readable may is =
      either (is_allowed (not (is_reading method)) (auid_of target) (home_of target) request.fields) (AnswersByMethod (server_state root c) target method request a) (a ≡ reply_only (plain_reply 403 request.closes))
      (method_way target method readable may) (λ _. only method c request a 403 refl refl) is

  target_way : (target : Target) (method : Method) → IsReadableTarget target → IsWritableTarget target → AnswersByTarget (server_state root c) target method request a → Way method request.closes c a
  target_way target method readable may is =
      either (allows_method target method) (AnswersByUser (server_state root c) target method request a) (a ≡ reply_only (not_allowed_reply (is_read_only target) request.closes))
      (λ _. user_way target method readable may) (λ _. refuses method c request a (not_allowed_reply (is_read_only target) request.closes) refl refl refl) is

  fault_way : (fault : UriFault) (method : Method) → a ≡ reply_only (plain_reply (fault_status fault) request.closes) → Way method request.closes c a
  fault_way OutsideRoot method is = only method c request a 404 refl refl is
  fault_way UnknownAuid method is = only method c request a 404 refl refl is
  fault_way BadShape method is = only method c request a 400 refl refl is
  fault_way BadEscape method is = only method c request a 400 refl refl is
  fault_way BadQuery method is = only method c request a 400 refl refl is
  fault_way UnboundPrefix method is = only method c request a 400 refl refl is
  fault_way BadSelector method is = only method c request a 400 refl refl is

  read_way : (read : Result Target UriFault) → IfOk read IsReadableTarget → IfOk read IsWritableTarget → IsAnswerByTarget root c read request a → Way (method_of request.method) request.closes c a
  read_way (Err fault) readable may is = fault_way fault (method_of request.method) is
  read_way (Ok target) readable may is = target_way target (method_of request.method) readable may is

-- the ids in a target can be named by an address
readable : (root target : List ℕ) (read : Result Target UriFault) → IsTargetResult root target read → IfOk read IsReadableTarget
readable root target (Ok t) is = readable_target root target t is
readable root target (Err fault) is = tt

pub way_of : (root : List ℕ) (c : Content) (request : Request) (a : Answer) → IsAnswer root c request a → Way (method_of request.method) request.closes c a
way_of root c request a is = read_way root c request a is.0 (readable root request.target is.0 is.1) (writable_target root request.target is.0 is.1) is.2
