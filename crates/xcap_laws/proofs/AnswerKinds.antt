-- The kinds of answers: without a tag; a document that is there, or a node of it, with its tag; and
-- a change, with the next number as tag, if there is one. Only one that shows a document is 304.
use Rattle.std.proofs.Common.{◌≡◌, ℕ, ◌==◌, Bool, true, false, not, List, [], length, is_some, Option, None, Some, IfSome, Result, Ok, Err, encode_utf8_all, refl, ap, subst, ◌∙◌}
use Rattle.std.specs.Option.{option_map_or}
use Rattle.std.specs.Prelude.{if◌then◌else◌}
use Rattle.doc_names.specs.DocIds.{id_text}
use Rattle.doc_names.specs.Usages.{usage_of}
use Rattle.doc_names.specs.declared.doc_id.DocId.{DocId}
use Rattle.doc_names.specs.declared.usages.Usage.{Usage}
use Rattle.edit_ops.specs.Notes.{Note}
use Rattle.edit_ops.specs.declared.change.Change.{Change}
use Rattle.edit_ops.specs.declared.change.Change.TheVariants.{RemoveDocument}
use Rattle.edit_rules.specs.declared.edit_refusal.EditRefusal.{EditRefusal}
use Rattle.edit_rules.specs.declared.edit_refusal.EditRefusal.TheVariants as plans
use Rattle.edit_rules.specs.declared.spot.NoParent.{NoParent}
use Rattle.edit_rules.specs.declared.spot.Spot.{Spot}
use Rattle.edit_rules.specs.declared.spot.Spot.TheVariants.{Over, Under, Beside, Value}
use Rattle.http_wire.specs.declared.request.Request.{Request}
use Rattle.list_resolve.specs.declared.fault.FlatFault.{FlatFault}
use Rattle.list_resolve.specs.declared.fault.FlatFault.TheVariants.{NoService, TooWide, TooLarge}
use Rattle.node_select.specs.declared.selector.Selector.{Selector}
use Rattle.patch_rules.specs.Notices.{gone_notice}
use Rattle.patch_write.specs.Modes.{notice_of}
use Rattle.reply_bodies.specs.Conflicts.{conflict_bytes}
use Rattle.reply_bodies.specs.Nodes.{encode_optional, found_text, node_media_type}
use Rattle.reply_bodies.specs.declared.conflicts.ErrorBody.{ErrorBody}
use Rattle.reply_bodies.specs.declared.conflicts.ErrorBody.TheVariants as conflicts
use Rattle.reply_text.specs.ReplyHeads.{HeadFields, SentReply, plain_reply, sent_reply}
use Rattle.reply_text.specs.Statuses.{is_status}
use Rattle.reply_text.specs.declared.media_types.MediaType.{MediaType}
use Rattle.reply_text.specs.declared.media_types.MediaType.TheVariants as medias
use Rattle.request_checks.specs.Conditions.{HasOutcome, outcome_of_verdict, outcome_reply}
use Rattle.request_checks.specs.Fields.{Preconditions}
use Rattle.request_checks.specs.MediaTypes.{document_media_type, has_media_type}
use Rattle.request_checks.specs.Methods.{reply_for_method, is_reading, method_of}
use Rattle.request_checks.specs.Rights.{is_allowed}
use Rattle.request_checks.specs.Verdicts.{if_match_holds, if_none_match_holds, precondition_verdict}
use Rattle.request_checks.specs.declared.conditions.Outcome.{Outcome}
use Rattle.request_checks.specs.declared.conditions.Outcome.TheVariants.{Unreadable, Go, NotModified, Failed}
use Rattle.request_checks.specs.declared.method.Method.{Method}
use Rattle.request_checks.specs.declared.method.Method.TheVariants.{Get, Head, Put, Delete, Other}
use Rattle.request_checks.specs.declared.verdicts.Verdict.TheVariants as verdicts
use Rattle.store_core.specs.Contents.{StoreContents as Content}
use Rattle.store_core.specs.DocumentChanges.{change_kind, refusal_of, change_result, contents_after, find_document, note_for, stored_id}
use Rattle.store_core.specs.Since.{ChangesSince, Gone, Unknown, ReportedChanges, since}
use Rattle.store_core.specs.declared.refusal.StoreRefusal.{StoreRefusal}
use Rattle.store_core.specs.declared.refusal.StoreRefusal.TheVariants as refusals
use Rattle.tree_text.specs.declared.fault.TextFault.{TextFault}
use Rattle.tree_text.specs.declared.fault.ValueFault.{ValueFault}
use Rattle.usage_docs.specs.declared.validation.Fault.{Fault}
use Rattle.xcap_laws.proofs.FreshTags.{answered_note, note_number}
use Rattle.xcap_laws.specs.NotModifiedReplies.{target_document, not_modified_reply}
use Rattle.xcap_machine.proofs.Cases.{either}
use Rattle.xcap_machine.proofs.ChangeAnswers.{as_the_store, told_by_store}
use Rattle.xcap_machine.specs.Answers.{Answer, AppliesConditions, MadeChange, error_reply, found_reply, not_allowed_reply, reply_only}
use Rattle.xcap_machine.specs.DocumentWrites.{WritesIfStored, PutsBody, PutsDocument, PutsParsedBody, change_answer, clash_field, delete_reply, fault_conflict, put_answer, put_change, put_reply, refusal_reply, text_conflict}
use Rattle.xcap_machine.specs.ElementFeeds.{AnswersElementQuery}
use Rattle.xcap_machine.specs.Feeds.{changes_since_answer, sends_notice}
use Rattle.xcap_machine.specs.FlatLists.{flat_answer}
use Rattle.xcap_machine.specs.NodeWrites.{RemovesNode, PutsAtEditTarget, PutsFragment, PutsByEditTarget, node_delete_reply, node_exists, plan_answer, value_conflict}
use Rattle.xcap_machine.specs.ReadRequests.{SendsDocument, AnswersWithFound, SendsNode}
use Rattle.xcap_machine.specs.Requests.{AnswersByTarget, IsAnswer, fault_status}
use Rattle.xcap_machine.specs.inner.AnswerCases.{AnswersByMethod, AnswersByUser, ReadsTarget as Reads}
use Rattle.xcap_machine.specs.StandardRequests.{DeletesTarget, PutsTarget, auid_of, home_of, is_read_only, allows_method}
use Rattle.xcap_machine.specs.Resources.{IsResourceOf, Resource, absent, beyond_limit, there, version_of}
use Rattle.xcap_machine.specs.inner.AnswerCases.{AnswersUnlessStopped, DeletesDocumentIfStored, DeletesNodeIfStored, IsAnswerByTarget, PutsElementText, PutsNodeIfStored, PutsParsedText, PutsValueText, judgement_answer, version_tag as tag_of}
use Rattle.xcap_machine.specs.inner.RecordValues.{element_query, feed_query, read_request, representation, server_state, node_write}
use Rattle.xcap_uri.specs.Ancestors.{ancestor_uri, home_uri}
use Rattle.xcap_uri.specs.Targets.{IsTargetResult}
use Rattle.xcap_uri.specs.declared.fault.UriFault.{UriFault}
use Rattle.xcap_uri.specs.declared.fault.UriFault.TheVariants.{OutsideRoot, UnknownAuid, BadShape, BadEscape, BadQuery, UnboundPrefix, BadSelector}
use Rattle.xcap_uri.specs.declared.target.Mode.{Mode}
use Rattle.xcap_uri.specs.declared.target.Target.{Target}
use Rattle.xcap_uri.specs.declared.target.Target.TheVariants.{Document, Node, Deep, Feed, ElementFeed, Flat}
use Rattle.xml_tree.specs.Print.{document_print}
use Rattle.xml_tree.specs.Tree.{Tree}

-- the request reads a document with this tag, or a node of one
pub record Shown (root : List ℕ) (c : Content) (request : Request) (tag : ℕ) : Type 0 where
  pub target : Target
  pub means : IsTargetResult root request.target (Ok target)
  pub id : DocId
  pub names : target_document target ≡ Some id
  pub tree : Tree
  pub held : IsResourceOf c id (there tree tag)
  pub reads : is_reading (method_of request.method) ≡ true

-- a reply with these fields and this body has a lawful status, and the length of the body as its
-- size, if the request isn't a HEAD
pub record IsFramed (request : Request) (fields : HeadFields) (body : List ℕ) : Type 0 where
  pub lawful : is_status fields.status ≡ true
  pub size : (method_of request.method ≡ Head → ⊥) → fields.size ≡ length body

pub data Kind (root : List ℕ) (c : Content) (request : Request) (a : Answer) : Type 0 where
  untagged : (fields : HeadFields) (body : List ℕ) → IsFramed request fields body → fields.tag ≡ None → (fields.status == 304) ≡ false → a ≡ reply_only (sent_reply fields body) → Kind root c request a
  shows : (fields : HeadFields) (body : List ℕ) (tag : ℕ) → IsFramed request fields body → fields.tag ≡ Some tag → (fields.status == 304) ≡ false → a ≡ reply_only (sent_reply fields body) → Shown root c request tag → Kind root c request a
  unmodified : (tag : ℕ) → a ≡ reply_only (not_modified_reply tag request.closes) → Shown root c request tag → HasOutcome request.fields (Some tag) true true NotModified → Kind root c request a
  writes : (fields : HeadFields) (body : List ℕ) (made : MadeChange) → IsFramed request fields body → IfSome fields.tag (λ t. t ≡ c.next) → (fields.status == 304) ≡ false → a ≡ record { reply = sent_reply fields body; made = Some made } → Kind root c request a

-- ---- a request that writes is never answered 304

write_verdict : (x y : Bool) → NotModified ≡ outcome_of_verdict (if not x then verdicts.Failed else if y then verdicts.Go else if false then verdicts.Same else verdicts.Failed) → ⊥
write_verdict true true h = let z : NotModified ≡ Go = h in cc
write_verdict true false h = let z : NotModified ≡ Failed = h in cc
write_verdict false y h = let z : NotModified ≡ Failed = h in cc

never_same : (tag : Option ℕ) (exists : Bool) (said : Option Preconditions) → NotModified ≡ option_map_or (λ conditions. outcome_of_verdict (precondition_verdict conditions tag exists false)) said Unreadable → ⊥
never_same tag exists None h = let z : NotModified ≡ Unreadable = h in cc
never_same tag exists (Some s) h = write_verdict (if_match_holds tag exists s.if_match) (if_none_match_holds tag exists s.if_none_match) h

-- ---- the reply to a reading method

abbrev body_for : Method → List ℕ → List ℕ
body_for Head text = []
body_for _ text = text

as_sent : (method : Method) (fields : HeadFields) (text : List ℕ) → reply_for_method method (sent_reply fields text) ≡ sent_reply fields (body_for method text)
as_sent Get fields text = refl
as_sent Head fields text = refl
as_sent Put fields text = refl
as_sent Delete fields text = refl
as_sent Other fields text = refl

abbrev found_fields : Option ℕ → MediaType → List ℕ → Bool → HeadFields
found_fields tag media text closes = record { status = 200; tag = tag; read_only = None; media = Some media; size = length text; closes = closes }

abbrev pub plain_fields : ℕ → Bool → HeadFields
plain_fields status closes = record { status = status; tag = None; read_only = None; media = None; size = 0; closes = closes }

abbrev tagged_fields : ℕ → ℕ → Bool → HeadFields
tagged_fields status tag closes = record { status = status; tag = Some tag; read_only = None; media = None; size = 0; closes = closes }

abbrev conflict_fields : ErrorBody → Bool → HeadFields
conflict_fields body closes = record { status = 409; tag = None; read_only = None; media = Some medias.Error; size = length (conflict_bytes body); closes = closes }

module _ (root : List ℕ) (c : Content) (request : Request) (a : Answer) where
  abbrev K : Type 0
  K = Kind root c request a

  -- fields with the length of this body as the size
  framed : (fields : HeadFields) (body : List ℕ) → is_status fields.status ≡ true → fields.size ≡ length body → IsFramed request fields body
  framed fields body lawful same = record { lawful = lawful; size = λ _. same }

  only : (status : ℕ) → is_status status ≡ true → (status == 304) ≡ false → a ≡ reply_only (plain_reply status request.closes) → K
  only status lawful other is = untagged (plain_fields status request.closes) [] (framed (plain_fields status request.closes) [] lawful refl) refl other is

  conflicts_so : (body : ErrorBody) → a ≡ reply_only (error_reply body request.closes) → K
  conflicts_so body is = untagged (conflict_fields body request.closes) (conflict_bytes body) (framed (conflict_fields body request.closes) (conflict_bytes body) refl refl) refl refl is

  write_outcome : (tag : Option ℕ) (exists : Bool) (o : Outcome) (P : Type 0) → HasOutcome request.fields tag exists false o → (P → K) → AnswersUnlessStopped (outcome_reply o tag request.closes) a P → K
  write_outcome tag exists Unreadable P has so is = only 400 refl refl is
  write_outcome tag exists Go P has so is = so is
  write_outcome tag exists NotModified P has so is = absurd (never_same tag exists has.0 has.2)
  write_outcome tag exists Failed P has so is = only 412 refl refl is

  behind : (tag : Option ℕ) (exists : Bool) (P : Type 0) → (P → K) → AppliesConditions request (representation tag exists) false a P → K
  behind tag exists P so is = write_outcome tag exists is.1.0 P is.1.1 so (subst (λ (stop : Option SentReply). AnswersUnlessStopped stop a P) is.1.2 is.2)

  no_usage : (u : Option Usage) (P : Usage → Type 0) → ((usage : Usage) → P usage → K) → WritesIfStored u request a P → K
  no_usage None P so is = only 403 refl refl is
  no_usage (Some usage) P so is = so usage is

  store_refuses : (refusal : StoreRefusal) → a ≡ reply_only (refusal_reply refusal request.closes) → K
  store_refuses (refusals.ServiceTaken clash) is = conflicts_so (conflicts.Unique (clash_field clash)) is
  store_refuses (refusals.TooLarge len) is = only 507 refl refl is
  store_refuses refusals.TooMany is = only 507 refl refl is
  store_refuses (refusals.StoreFull total) is = only 507 refl refl is
  store_refuses refusals.HomeTooMany is = only 507 refl refl is
  store_refuses (refusals.HomeFull total) is = only 507 refl refl is
  store_refuses refusals.NoNumber is = only 507 refl refl is

  module _ (id : DocId) (reply : Note → SentReply) (fields : Note → HeadFields) (made_as : (note : Note) → reply note ≡ sent_reply (fields note) []) (frames : (note : Note) → IsFramed request (fields note) []) (other : (note : Note) → ((fields note).status == 304) ≡ false)
      (says : (note : Note) → IfSome (fields note).tag (λ t. t ≡ note.next)) where
    number : (note : Note) → note.next ≡ c.next → (o : Option ℕ) → IfSome o (λ t. t ≡ note.next) → IfSome o (λ t. t ≡ c.next)
    number note is None h = tt
    number note is (Some t) h = h ∙ is

    by_store : (change : Change) (made : Result (Note × Content) StoreRefusal) → change_result c id change ≡ made → a ≡ told_by_store id request.closes reply made → K
    by_store change (Err refusal) e is = store_refuses refusal is
    by_store change (Ok (note, next)) e is =
        let held = find_document stored_id c.documents id in
        let told : note ≡ note_for c id change held = answered_note (refusal_of c id change held (change_kind change)) (note_for c id change held) note (contents_after c id change) next e in
        let next_is : note.next ≡ c.next = ap (λ (n : Note). n.next) told ∙ note_number c id change held in
        let made : MadeChange = (id, note) in
        writes (fields note) [] made (frames note) (number note next_is (fields note).tag (says note)) (other note) (is ∙ ap (λ (r : SentReply). let x : Answer = record { reply = r; made = Some made } in x) (made_as note))

    by_change : (change : Change) → a ≡ change_answer c id change request.closes reply → K
    by_change change is = by_store change (change_result c id change) refl (is ∙ as_the_store c id change request.closes reply)

    by_plan : (plan : Result Change EditRefusal) → a ≡ plan_answer c id request.closes reply plan → K
    by_plan (Err plans.NotFound) is = only 404 refl refl is
    by_plan (Err plans.CannotInsert) is = conflicts_so conflicts.CannotInsert is
    by_plan (Err plans.CannotDelete) is = conflicts_so conflicts.CannotDelete is
    by_plan (Err (plans.Faulty fault)) is = conflicts_so (fault_conflict fault) is
    by_plan (Ok change) is = by_change change is

  -- ---- reading

  module _ (method : Method) (asks : method_of request.method ≡ method) where
    -- the size of a text's reply, which only a HEAD leaves without the text
    whole : (m : Method) → method_of request.method ≡ m → (text : List ℕ) → (method_of request.method ≡ Head → ⊥) → length text ≡ length (body_for m text)
    whole Get is text never = refl
    whole Head is text never = absurd (never is)
    whole Put is text never = refl
    whole Delete is text never = refl
    whole Other is text never = refl

    frames : (tag : Option ℕ) (media : MediaType) (text : List ℕ) → IsFramed request (found_fields tag media text request.closes) (body_for method text)
    frames tag media text = record { lawful = refl; size = whole method asks text }

    read_outcome : (tag : ℕ) (o : Outcome) (media : MediaType) (text : List ℕ) → HasOutcome request.fields (Some tag) true true o → Shown root c request tag
        → AnswersUnlessStopped (outcome_reply o (Some tag) request.closes) a (a ≡ reply_only (reply_for_method method (found_reply (Some tag) media text request.closes))) → K
    read_outcome tag Unreadable media text has shown is = only 400 refl refl is
    read_outcome tag Go media text has shown is =
        shows (found_fields (Some tag) media text request.closes) (body_for method text) tag (frames (Some tag) media text) refl refl (is ∙ ap (λ (r : SentReply). reply_only r) (as_sent method (found_fields (Some tag) media text request.closes) text)) shown
    read_outcome tag NotModified media text has shown is = unmodified tag is shown has
    read_outcome tag Failed media text has shown is = only 412 refl refl is

    found_so : (text : Option (List ℕ)) (tag : ℕ) (media : MediaType) → Shown root c request tag → AnswersWithFound text tag media (read_request method request) a → K
    found_so None tag media shown is = only 404 refl refl is
    found_so (Some text) tag media shown is =
        let Last : Type 0 = a ≡ reply_only (reply_for_method method (found_reply (Some tag) media text request.closes)) in
        read_outcome tag is.1.0 media text is.1.1 shown (subst (λ (stop : Option SentReply). AnswersUnlessStopped stop a Last) is.1.2 is.2)

    untagged_so : (media : MediaType) (text : List ℕ) → a ≡ reply_only (reply_for_method method (found_reply None media text request.closes)) → K
    untagged_so media text is =
        untagged (found_fields None media text request.closes) (body_for method text) (frames None media text) refl refl (is ∙ ap (λ (r : SentReply). reply_only r) (as_sent method (found_fields None media text request.closes) text))

    document_so : (r : Resource) (media : MediaType) → ((t : Tree) (tag : ℕ) → r ≡ there t tag → Shown root c request tag) → SendsDocument r media (read_request method request) a → K
    document_so absent media shown is = only 404 refl refl is
    document_so beyond_limit media shown is = only 507 refl refl is
    document_so (there t tag) media shown is = found_so (Some (encode_utf8_all (document_print t))) tag media (shown t tag refl) is

    node_so : (r : Resource) (selector : Selector) → ((t : Tree) (tag : ℕ) → r ≡ there t tag → Shown root c request tag) → SendsNode r selector (read_request method request) a → K
    node_so absent selector shown is = only 404 refl refl is
    node_so beyond_limit selector shown is = only 507 refl refl is
    node_so (there t tag) selector shown is = found_so (encode_optional (found_text t selector)) tag (node_media_type selector.end) (shown t tag refl) is

    notice_so : (notice : Tree) → a ≡ sends_notice notice (read_request method request) → K
    notice_so notice is = untagged_so medias.Diff (encode_utf8_all (document_print notice)) is

    story_so : (mode : Mode) (tag : ℕ) (id : DocId) (changes_since : ChangesSince) → a ≡ changes_since_answer root (feed_query mode tag id) changes_since (read_request method request) → K
    story_so mode tag id Gone is = notice_so (gone_notice root (id_text id) tag) is
    story_so mode tag id Unknown is = only 410 refl refl is
    story_so mode tag id (ReportedChanges ns) is = notice_so (notice_of mode root (id_text id) tag ns) is

    element_told_so : (tag : ℕ) (id : DocId) (selector : Selector) (raw : List ℕ) (changes_since : ChangesSince) → AnswersElementQuery (server_state root c) (element_query tag id selector raw) changes_since (read_request method request) a → K
    element_told_so tag id selector raw Gone is = notice_so (gone_notice root (id_text id) tag) is
    element_told_so tag id selector raw Unknown is = only 410 refl refl is
    element_told_so tag id selector raw (ReportedChanges ns) is = notice_so is.0 is.2

    flat_so : (answer : Result Tree FlatFault) → a ≡ flat_answer answer (read_request method request) → K
    flat_so (Ok t) is = untagged_so medias.ResourceLists (encode_utf8_all (document_print t)) is
    flat_so (Err NoService) is = only 404 refl refl is
    flat_so (Err TooWide) is = only 507 refl refl is
    flat_so (Err (TooLarge len)) is = only 507 refl refl is

    module _ (reads : is_reading (method_of request.method) ≡ true) where
      shown_by : (target : Target) (id : DocId) (r : Resource) → IsTargetResult root request.target (Ok target) → target_document target ≡ Some id → IsResourceOf c id r → (t : Tree) (tag : ℕ) → r ≡ there t tag → Shown root c request tag
      shown_by target id r means names held t tag is = record {
        target = target;
        means = means;
        id = id;
        names = names;
        tree = t;
        held = subst (λ (x : Resource). IsResourceOf c id x) is held;
        reads = reads;
      }

      read_so : (target : Target) → IsTargetResult root request.target (Ok target) → Reads (server_state root c) target (read_request method request) a → K
      read_so (Document id) means is = document_so is.0 (document_media_type id.auid) (shown_by (Document id) id is.0 means refl is.1) is.2
      read_so (Node id selector) means is = node_so is.0 selector (shown_by (Node id selector) id is.0 means refl is.1) is.2
      read_so (Deep auid home) means is = only 404 refl refl is
      read_so (Feed mode tag id) means is = story_so mode tag id (since c id tag) is
      read_so (ElementFeed tag id selector raw) means is = element_told_so tag id selector raw (since c id tag) is
      read_so (Flat id service) means is = flat_so is.0 is.2

  -- ---- writing

  module _ (id : DocId) where
    abbrev put_fields : Bool → Note → HeadFields
    put_fields exists note = tagged_fields (if exists then 200 else 201) note.next request.closes

    put_as : (exists : Bool) (note : Note) → put_reply exists request.closes note ≡ sent_reply (put_fields exists note) []
    put_as true note = refl
    put_as false note = refl

    put_other : (exists : Bool) (note : Note) → ((put_fields exists note).status == 304) ≡ false
    put_other true note = refl
    put_other false note = refl

    put_framed : (exists : Bool) (note : Note) → IsFramed request (put_fields exists note) []
    put_framed true note = framed (put_fields true note) [] refl refl
    put_framed false note = framed (put_fields false note) [] refl refl

    put_made : (exists : Bool) (change : Change) → a ≡ change_answer c id change request.closes (put_reply exists request.closes) → K
    put_made exists change is = by_change id (put_reply exists request.closes) (put_fields exists) (put_as exists) (put_framed exists) (put_other exists) (λ note. refl) change is

    put_planned_so : (exists : Bool) (plan : Result Change EditRefusal) → a ≡ plan_answer c id request.closes (put_reply exists request.closes) plan → K
    put_planned_so exists plan is = by_plan id (put_reply exists request.closes) (put_fields exists) (put_as exists) (put_framed exists) (put_other exists) (λ note. refl) plan is

    judged_so : (judgement : Option Fault) (t : Tree) → a ≡ judgement_answer judgement request.closes (put_answer c id request.closes t) → K
    judged_so (Some fault) t is = conflicts_so (fault_conflict fault) is
    judged_so None t is = put_made (is_some (version_of c id)) (put_change (is_some (version_of c id)) t) is

    text_so : (usage : Usage) (read : Result Tree TextFault) → PutsParsedText usage read request.closes (put_answer c id request.closes) a → K
    text_so usage (Err fault) is = conflicts_so (text_conflict conflicts.NotWellFormed fault) is
    text_so usage (Ok t) is = judged_so is.0 t is.2

    body_so : (usage : Usage) → PutsBody usage (document_media_type id.auid) request (put_answer c id request.closes) a → K
    body_so usage is =
        either (has_media_type (document_media_type id.auid) request.fields) (PutsParsedBody usage request (put_answer c id request.closes) a) (a ≡ reply_only (plain_reply 415 request.closes))
        (λ _ spelled. text_so usage spelled.0 spelled.2) (λ _. only 415 refl refl) is

    document_put_so : (usage : Usage) → PutsDocument c id usage request a → K
    document_put_so usage is = behind (tag_of (version_of c id)) (is_some (version_of c id)) (PutsBody usage (document_media_type id.auid) request (put_answer c id request.closes) a) (body_so usage) is

    module _ (usage : Usage) (selector : Selector) (t : Tree) where
      element_so : (spot : Spot) (read : Result Tree TextFault) → PutsElementText c (node_write id usage selector request) t spot read a → K
      element_so spot (Err fault) is = conflicts_so (text_conflict conflicts.NotXmlFrag fault) is
      element_so spot (Ok e) is = put_planned_so (node_exists t selector) is.0 is.2

      value_so : (p : List ℕ) (read : Result (List ℕ) ValueFault) → PutsValueText c (node_write id usage selector request) t p read a → K
      value_so p (Err fault) is = conflicts_so (value_conflict fault) is
      value_so p (Ok value) is = put_planned_so (node_exists t selector) is.0 is.2

      at_so : (spot : Spot) → PutsAtEditTarget c (node_write id usage selector request) t spot a → K
      at_so (Over p) is = element_so (Over p) is.0 is.2
      at_so (Under q) is = element_so (Under q) is.0 is.2
      at_so Beside is = element_so Beside is.0 is.2
      at_so (Value p) is = value_so p is.0 is.2

      fragment_so : (spot : Spot) → PutsFragment c (node_write id usage selector request) t spot a → K
      fragment_so spot is =
          either (has_media_type (node_media_type selector.end) request.fields) (PutsAtEditTarget c (node_write id usage selector request) t spot a) (a ≡ reply_only (plain_reply 415 request.closes))
          (λ _. at_so spot) (λ _. only 415 refl refl) is

      from_so : (tag : ℕ) (spot : Result Spot NoParent) → PutsByEditTarget (server_state root c) (node_write id usage selector request) (t, tag) spot a → K
      from_so tag (Err none) is = conflicts_so (conflicts.NoParent (ancestor_uri root id t selector.steps)) is
      from_so tag (Ok spot) is = behind (Some tag) (node_exists t selector) (PutsFragment c (node_write id usage selector request) t spot a) (fragment_so spot) is

    node_put_so : (usage : Usage) (selector : Selector) (version : Option (Tree × ℕ)) → PutsNodeIfStored (server_state root c) (node_write id usage selector request) version a → K
    node_put_so usage selector None is = conflicts_so (conflicts.NoParent (home_uri root id.auid id.home)) is
    node_put_so usage selector (Some (t, tag)) is = from_so usage selector t tag is.0 is.2

    document_deleted_so : (version : Option (Tree × ℕ)) → DeletesDocumentIfStored c id version request a → K
    document_deleted_so None is = only 404 refl refl is
    document_deleted_so (Some (t, tag)) is =
        behind (Some tag) true (a ≡ change_answer c id RemoveDocument request.closes (delete_reply request.closes))
        (by_change id (delete_reply request.closes) (λ note. plain_fields 200 request.closes) (λ note. refl) (λ note. framed (plain_fields 200 request.closes) [] refl refl) (λ note. refl) (λ note. tt) RemoveDocument) is

    cut_so : (usage : Usage) (selector : Selector) (t : Tree) → RemovesNode c (node_write id usage selector request) t a → K
    cut_so usage selector t is = by_plan id (node_delete_reply request.closes) (λ note. tagged_fields 200 note.next request.closes) (λ note. refl) (λ note. framed (tagged_fields 200 note.next request.closes) [] refl refl) (λ note. refl) (λ note. refl) is.0 is.2

    node_deleted_so : (usage : Usage) (selector : Selector) (version : Option (Tree × ℕ)) → DeletesNodeIfStored c (node_write id usage selector request) version a → K
    node_deleted_so usage selector None is = only 404 refl refl is
    node_deleted_so usage selector (Some (t, tag)) is =
        let Last : Type 0 = RemovesNode c (node_write id usage selector request) t a in
        either (node_exists t selector) (AppliesConditions request (representation (Some tag) true) false a Last) (a ≡ reply_only (plain_reply 404 request.closes))
        (λ _. behind (Some tag) true Last (cut_so usage selector t)) (λ _. only 404 refl refl) is

  -- ---- all in order

  target_put_so : (target : Target) (usage : Usage) → PutsTarget (server_state root c) target usage request a → K
  target_put_so (Document id) usage is = document_put_so id usage is
  target_put_so (Node id selector) usage is = node_put_so id usage selector (version_of c id) is
  target_put_so (Deep auid home) usage is = conflicts_so (conflicts.NoParent (home_uri root auid home)) is
  target_put_so (Feed mode tag id) usage is = absurd is
  target_put_so (ElementFeed tag id selector raw) usage is = absurd is
  target_put_so (Flat id service) usage is = absurd is

  target_deleted_so : (target : Target) (usage : Usage) → DeletesTarget c target usage request a → K
  target_deleted_so (Document id) usage is = document_deleted_so id (version_of c id) is
  target_deleted_so (Node id selector) usage is = node_deleted_so id usage selector (version_of c id) is
  target_deleted_so (Deep auid home) usage is = only 404 refl refl is
  target_deleted_so (Feed mode tag id) usage is = absurd is
  target_deleted_so (ElementFeed tag id selector raw) usage is = absurd is
  target_deleted_so (Flat id service) usage is = absurd is

  method_so : (target : Target) (method : Method) → method_of request.method ≡ method → IsTargetResult root request.target (Ok target) → AnswersByMethod (server_state root c) target method request a → K
  method_so target Get asks means is = read_so Get asks (ap is_reading asks) target means is
  method_so target Head asks means is = read_so Head asks (ap is_reading asks) target means is
  method_so target Put asks means is = no_usage (usage_of (auid_of target)) (λ usage. PutsTarget (server_state root c) target usage request a) (target_put_so target) is
  method_so target Delete asks means is = no_usage (usage_of (auid_of target)) (λ usage. DeletesTarget c target usage request a) (target_deleted_so target) is
  method_so target Other asks means is = absurd is

  user_so : (target : Target) (method : Method) → method_of request.method ≡ method → IsTargetResult root request.target (Ok target) → AnswersByUser (server_state root c) target method request a → K
  user_so target method asks means is =
      either (is_allowed (not (is_reading method)) (auid_of target) (home_of target) request.fields) (AnswersByMethod (server_state root c) target method request a) (a ≡ reply_only (plain_reply 403 request.closes))
      (λ _. method_so target method asks means) (λ _. only 403 refl refl) is

  target_so : (target : Target) (method : Method) → method_of request.method ≡ method → IsTargetResult root request.target (Ok target) → AnswersByTarget (server_state root c) target method request a → K
  target_so target method asks means is =
      either (allows_method target method) (AnswersByUser (server_state root c) target method request a) (a ≡ reply_only (not_allowed_reply (is_read_only target) request.closes))
      (λ _. user_so target method asks means) (λ _. refused) is
    where
      refused : a ≡ reply_only (not_allowed_reply (is_read_only target) request.closes) → K
      refused same =
          let fields : HeadFields = record { status = 405; tag = None; read_only = Some (is_read_only target); media = None; size = 0; closes = request.closes } in
          untagged fields [] (framed fields [] refl refl) refl refl same

  fault_so : (fault : UriFault) → a ≡ reply_only (plain_reply (fault_status fault) request.closes) → K
  fault_so OutsideRoot is = only 404 refl refl is
  fault_so UnknownAuid is = only 404 refl refl is
  fault_so BadShape is = only 400 refl refl is
  fault_so BadEscape is = only 400 refl refl is
  fault_so BadQuery is = only 400 refl refl is
  fault_so UnboundPrefix is = only 400 refl refl is
  fault_so BadSelector is = only 400 refl refl is

  answered_so : (read : Result Target UriFault) → IsTargetResult root request.target read → IsAnswerByTarget root c read request a → K
  answered_so (Err fault) means is = fault_so fault is
  answered_so (Ok target) means is = target_so target (method_of request.method) refl means is

  pub kind_of : IsAnswer root c request a → Kind root c request a
  kind_of is = answered_so is.0 is.1 is.2
