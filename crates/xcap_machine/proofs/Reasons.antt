-- No request is answered 503: no refusal, of the store, of a plan or of a text, has that status.
use Rattle.std.proofs.Common.{◌≡◌, ℕ, Bool, true, false, not, ◌==◌, List, is_some, Option, None, Some, Result, Ok, Err, refl, sym, ap, subst, ◌∙◌, encode_utf8_all}
use Rattle.xml_tree.specs.Tree.{Tree}
use Rattle.xml_tree.specs.Print.{document_print}
use Rattle.tree_text.specs.declared.fault.TextFault.{TextFault}
use Rattle.tree_text.specs.declared.fault.ValueFault.{ValueFault}
use Rattle.usage_docs.specs.declared.validation.Fault.{Fault}
use Rattle.doc_names.specs.DocIds.{id_text}
use Rattle.doc_names.specs.Usages.{usage_of}
use Rattle.doc_names.specs.declared.usages.Usage.{Usage}
use Rattle.doc_names.specs.declared.doc_id.DocId.{DocId}
use Rattle.node_select.specs.declared.selector.Selector.{Selector}
use Rattle.xcap_uri.specs.Ancestors.{ancestor_uri, home_uri}
use Rattle.xcap_uri.specs.declared.fault.UriFault.{UriFault}
use Rattle.xcap_uri.specs.declared.fault.UriFault.TheVariants.{OutsideRoot, UnknownAuid, BadShape, BadEscape, BadQuery, UnboundPrefix, BadSelector}
use Rattle.xcap_uri.specs.declared.target.Mode.{Mode}
use Rattle.xcap_uri.specs.declared.target.Target.{Target}
use Rattle.xcap_uri.specs.declared.target.Target.TheVariants.{Document, Node, Deep, Feed, ElementFeed, Flat}
use Rattle.edit_ops.specs.declared.change.Change.{Change}
use Rattle.edit_ops.specs.declared.change.Change.TheVariants.{RemoveDocument}
use Rattle.edit_rules.specs.declared.edit_refusal.EditRefusal.{EditRefusal}
use Rattle.edit_rules.specs.declared.edit_refusal.EditRefusal.TheVariants as plans
use Rattle.edit_rules.specs.declared.spot.NoParent.{NoParent}
use Rattle.edit_rules.specs.declared.spot.Spot.{Spot}
use Rattle.edit_rules.specs.declared.spot.Spot.TheVariants.{Over, Under, Beside, Value}
use Rattle.edit_ops.specs.Notes.{Note}
use Rattle.patch_rules.specs.Notices.{gone_notice}
use Rattle.patch_write.specs.Modes.{notice_of}
use Rattle.reply_text.specs.ReplyHeads.{SentReply, plain_reply}
use Rattle.reply_text.specs.declared.media_types.MediaType.{MediaType}
use Rattle.reply_text.specs.declared.media_types.MediaType.TheVariants as medias
use Rattle.reply_bodies.specs.declared.conflicts.ErrorBody.{ErrorBody}
use Rattle.reply_bodies.specs.declared.conflicts.ErrorBody.TheVariants as conflicts
use Rattle.http_wire.specs.declared.request.Request.{Request}
use Rattle.request_checks.specs.Conditions.{outcome_reply}
use Rattle.request_checks.specs.MediaTypes.{document_media_type, has_media_type}
use Rattle.request_checks.specs.Methods.{reply_for_method, method_of, is_reading}
use Rattle.request_checks.specs.Rights.{is_allowed}
use Rattle.request_checks.specs.declared.conditions.Outcome.{Outcome}
use Rattle.request_checks.specs.declared.conditions.Outcome.TheVariants.{Unreadable, Go, NotModified, Failed}
use Rattle.request_checks.specs.declared.method.Method.{Method}
use Rattle.request_checks.specs.declared.method.Method.TheVariants.{Get, Head, Put, Delete, Other}
use Rattle.reply_bodies.specs.Nodes.{encode_optional, found_text, node_media_type}
use Rattle.store_core.specs.DocumentChanges.{change_result}
use Rattle.store_core.specs.Contents.{StoreContents as Content}
use Rattle.store_core.specs.Since.{ChangesSince, Gone, Unknown, ReportedChanges, since}
use Rattle.store_core.specs.declared.refusal.StoreRefusal.{StoreRefusal}
use Rattle.store_core.specs.declared.refusal.StoreRefusal.TheVariants as refusals
use Rattle.xcap_machine.specs.Answers.{Answer, AppliesConditions, error_reply, found_reply, not_allowed_reply, reply_only}
use Rattle.xcap_machine.specs.NodeWrites.{RemovesNode, PutsAtEditTarget, PutsFragment, PutsByEditTarget, node_delete_reply, node_exists, plan_answer, value_conflict}
use Rattle.xcap_machine.specs.ElementFeeds.{AnswersElementQuery}
use Rattle.list_resolve.specs.declared.fault.FlatFault.{FlatFault}
use Rattle.list_resolve.specs.declared.fault.FlatFault.TheVariants.{NoService, TooWide, TooLarge}
use Rattle.xcap_machine.specs.Feeds.{sends_notice, changes_since_answer}
use Rattle.xcap_machine.specs.FlatLists.{flat_answer}
use Rattle.xcap_machine.specs.ReadRequests.{SendsDocument, AnswersWithFound, SendsNode}
use Rattle.xcap_machine.specs.Requests.{AnswersByTarget, IsAnswer, fault_status}
use Rattle.xcap_machine.specs.inner.AnswerCases.{AnswersByMethod, AnswersByUser, ReadsTarget as Reads}
use Rattle.xcap_machine.specs.StandardRequests.{DeletesTarget, PutsTarget, auid_of, home_of, is_read_only, allows_method}
use Rattle.xcap_machine.specs.Resources.{Resource, absent, beyond_limit, there, version_of}
use Rattle.xcap_machine.specs.DocumentWrites.{WritesIfStored, PutsBody, PutsDocument, PutsParsedBody, change_answer, delete_reply, fault_conflict, put_answer, put_change, put_reply, text_conflict}
use Rattle.xcap_machine.specs.inner.AnswerCases.{DeletesDocumentIfStored, DeletesNodeIfStored, PutsElementText, PutsNodeIfStored, PutsValueText, IsAnswerByTarget, PutsParsedText, judgement_answer, version_tag as tag_of, AnswersUnlessStopped}
use Rattle.xcap_machine.specs.inner.RecordValues.{element_query, feed_query, read_request, representation, server_state, node_write}
use Rattle.xcap_machine.proofs.Cases.{either}
use Rattle.xcap_machine.proofs.ChangeAnswers.{as_the_store, told_by_store}

-- ---- answers

abbrev IsNot503 : ℕ → Type 0
IsNot503 status = (status == 503) ≡ false

abbrev pub Fine : Answer → Type 0
Fine a = IsNot503 a.reply.status

module _ (request : Request) (a : Answer) where
  fine : (reply : SentReply) → IsNot503 reply.status → a ≡ reply_only reply → Fine a
  fine reply other is = subst (λ (x : Answer). Fine x) (sym is) other

  only : (status : ℕ) → IsNot503 status → a ≡ reply_only (plain_reply status request.closes) → Fine a
  only status other is = fine (plain_reply status request.closes) other is

  conflicts_so : (body : ErrorBody) → a ≡ reply_only (error_reply body request.closes) → Fine a
  conflicts_so body is = fine (error_reply body request.closes) refl is

  by_outcome : (o : Outcome) (tag : Option ℕ) (P : Type 0) → (P → Fine a) → AnswersUnlessStopped (outcome_reply o tag request.closes) a P → Fine a
  by_outcome Unreadable tag P so is = fine _ refl is
  by_outcome Go tag P so is = so is
  by_outcome NotModified tag P so is = fine _ refl is
  by_outcome Failed tag P so is = fine _ refl is

  behind : (tag : Option ℕ) (exists reading : Bool) (P : Type 0) → (P → Fine a) → AppliesConditions request (representation tag exists) reading a P → Fine a
  behind tag exists reading P so is = by_outcome is.1.0 tag P so (subst (λ (stop : Option SentReply). AnswersUnlessStopped stop a P) is.1.2 is.2)

  no_usage : (u : Option Usage) (P : Usage → Type 0) → ((usage : Usage) → P usage → Fine a) → WritesIfStored u request a P → Fine a
  no_usage None P so is = only 403 refl is
  no_usage (Some usage) P so is = so usage is

  module _ (c : Content) (id : DocId) (reply : Note → SentReply) (other : (note : Note) → IsNot503 (reply note).status) where
    by_store : (made : Result (Note × Content) StoreRefusal) → a ≡ told_by_store id request.closes reply made → Fine a
    by_store (Err (refusals.ServiceTaken clash)) is = fine _ refl is
    by_store (Err (refusals.TooLarge len)) is = fine _ refl is
    by_store (Err refusals.TooMany) is = fine _ refl is
    by_store (Err (refusals.StoreFull total)) is = fine _ refl is
    by_store (Err refusals.HomeTooMany) is = fine _ refl is
    by_store (Err (refusals.HomeFull total)) is = fine _ refl is
    by_store (Err refusals.NoNumber) is = fine _ refl is
    by_store (Ok (note, next)) is = subst (λ (x : Answer). Fine x) (sym is) (other note)

    by_plan : (plan : Result Change EditRefusal) → a ≡ plan_answer c id request.closes reply plan → Fine a
    by_plan (Err plans.NotFound) is = fine _ refl is
    by_plan (Err plans.CannotInsert) is = fine _ refl is
    by_plan (Err plans.CannotDelete) is = fine _ refl is
    by_plan (Err (plans.Faulty fault)) is = fine _ refl is
    by_plan (Ok change) is = by_store (change_result c id change) (is ∙ as_the_store c id change request.closes reply)

-- ---- reading

asked_so : (method : Method) (reply : SentReply) → IsNot503 reply.status → IsNot503 (reply_for_method method reply).status
asked_so Get reply other = other
asked_so Head reply other = other
asked_so Put reply other = other
asked_so Delete reply other = other
asked_so Other reply other = other

module _ (method : Method) (request : Request) (a : Answer) where
  found_so : (text : Option (List ℕ)) (tag : ℕ) (media : MediaType) → AnswersWithFound text tag media (read_request method request) a → Fine a
  found_so None tag media is = only request a 404 refl is
  found_so (Some text) tag media is =
      let reply = found_reply (Some tag) media text request.closes in
      behind request a (Some tag) true true (a ≡ reply_only (reply_for_method method reply)) (fine request a (reply_for_method method reply) (asked_so method reply refl)) is

  document_so : (r : Resource) (media : MediaType) → SendsDocument r media (read_request method request) a → Fine a
  document_so absent media is = only request a 404 refl is
  document_so beyond_limit media is = only request a 507 refl is
  document_so (there t tag) media is = found_so (Some (encode_utf8_all (document_print t))) tag media is

  node_so : (r : Resource) (selector : Selector) → SendsNode r selector (read_request method request) a → Fine a
  node_so absent selector is = only request a 404 refl is
  node_so beyond_limit selector is = only request a 507 refl is
  node_so (there t tag) selector is = found_so (encode_optional (found_text t selector)) tag (node_media_type selector.end) is

  notice_so : (notice : Tree) → a ≡ sends_notice notice (read_request method request) → Fine a
  notice_so notice is =
      let sent = found_reply None medias.Diff (encode_utf8_all (document_print notice)) request.closes in
      fine request a (reply_for_method method sent) (asked_so method sent refl) is

  story_so : (root : List ℕ) (mode : Mode) (tag : ℕ) (id : DocId) (changes_since : ChangesSince) → a ≡ changes_since_answer root (feed_query mode tag id) changes_since (read_request method request) → Fine a
  story_so root mode tag id Gone is = notice_so (gone_notice root (id_text id) tag) is
  story_so root mode tag id Unknown is = only request a 410 refl is
  story_so root mode tag id (ReportedChanges ns) is = notice_so (notice_of mode root (id_text id) tag ns) is

  element_told_so : (root : List ℕ) (c : Content) (tag : ℕ) (id : DocId) (selector : Selector) (raw : List ℕ) (changes_since : ChangesSince) → AnswersElementQuery (server_state root c) (element_query tag id selector raw) changes_since (read_request method request) a → Fine a
  element_told_so root c tag id selector raw Gone is = notice_so (gone_notice root (id_text id) tag) is
  element_told_so root c tag id selector raw Unknown is = only request a 410 refl is
  element_told_so root c tag id selector raw (ReportedChanges ns) is = notice_so is.0 is.2

  flat_so : (answer : Result Tree FlatFault) → a ≡ flat_answer answer (read_request method request) → Fine a
  flat_so (Ok t) is =
      let sent = found_reply None medias.ResourceLists (encode_utf8_all (document_print t)) request.closes in
      fine request a (reply_for_method method sent) (asked_so method sent refl) is
  flat_so (Err NoService) is = only request a 404 refl is
  flat_so (Err TooWide) is = only request a 507 refl is
  flat_so (Err (TooLarge len)) is = only request a 507 refl is

  read_so : (root : List ℕ) (c : Content) (target : Target) → Reads (server_state root c) target (read_request method request) a → Fine a
  read_so root c (Document id) is = document_so is.0 (document_media_type id.auid) is.2
  read_so root c (Node id selector) is = node_so is.0 selector is.2
  read_so root c (Deep auid home) is = only request a 404 refl is
  read_so root c (Feed mode tag id) is = story_so root mode tag id (since c id tag) is
  read_so root c (ElementFeed tag id selector raw) is = element_told_so root c tag id selector raw (since c id tag) is
  read_so root c (Flat id service) is = flat_so is.0 is.2

-- ---- writing

put_so : (exists closes : Bool) (note : Note) → IsNot503 (put_reply exists closes note).status
put_so true closes note = refl
put_so false closes note = refl

module _ (c : Content) (id : DocId) (request : Request) (a : Answer) where
  judged_so : (judgement : Option Fault) (t : Tree) → a ≡ judgement_answer judgement request.closes (put_answer c id request.closes t) → Fine a
  judged_so (Some fault) t is = conflicts_so request a (fault_conflict fault) is
  judged_so None t is =
      let exists = is_some (version_of c id) in
      let change = put_change exists t in
      by_store request a c id (put_reply exists request.closes) (put_so exists request.closes) (change_result c id change) (is ∙ as_the_store c id change request.closes (put_reply exists request.closes))

  text_so : (usage : Usage) (read : Result Tree TextFault) → PutsParsedText usage read request.closes (put_answer c id request.closes) a → Fine a
  text_so usage (Err fault) is = conflicts_so request a (text_conflict conflicts.NotWellFormed fault) is
  text_so usage (Ok t) is = judged_so is.0 t is.2

  body_so : (usage : Usage) → PutsBody usage (document_media_type id.auid) request (put_answer c id request.closes) a → Fine a
  body_so usage is =
      either (has_media_type (document_media_type id.auid) request.fields) (PutsParsedBody usage request (put_answer c id request.closes) a) (a ≡ reply_only (plain_reply 415 request.closes))
      (λ _ spelled. text_so usage spelled.0 spelled.2) (λ _. only request a 415 refl) is

  document_put_so : (usage : Usage) → PutsDocument c id usage request a → Fine a
  document_put_so usage is =
      behind request a (tag_of (version_of c id)) (is_some (version_of c id)) false (PutsBody usage (document_media_type id.auid) request (put_answer c id request.closes) a) (body_so usage) is

  module _ (usage : Usage) (selector : Selector) (t : Tree) where
    abbrev reply : Note → SentReply
    reply = put_reply (node_exists t selector) request.closes

    element_so : (spot : Spot) (read : Result Tree TextFault) → PutsElementText c (node_write id usage selector request) t spot read a → Fine a
    element_so spot (Err fault) is = conflicts_so request a (text_conflict conflicts.NotXmlFrag fault) is
    element_so spot (Ok e) is = by_plan request a c id reply (put_so (node_exists t selector) request.closes) is.0 is.2

    value_so : (p : List ℕ) (read : Result (List ℕ) ValueFault) → PutsValueText c (node_write id usage selector request) t p read a → Fine a
    value_so p (Err fault) is = conflicts_so request a (value_conflict fault) is
    value_so p (Ok value) is = by_plan request a c id reply (put_so (node_exists t selector) request.closes) is.0 is.2

    at_so : (spot : Spot) → PutsAtEditTarget c (node_write id usage selector request) t spot a → Fine a
    at_so (Over p) is = element_so (Over p) is.0 is.2
    at_so (Under q) is = element_so (Under q) is.0 is.2
    at_so Beside is = element_so Beside is.0 is.2
    at_so (Value p) is = value_so p is.0 is.2

    fragment_so : (spot : Spot) → PutsFragment c (node_write id usage selector request) t spot a → Fine a
    fragment_so spot is =
        either (has_media_type (node_media_type selector.end) request.fields) (PutsAtEditTarget c (node_write id usage selector request) t spot a) (a ≡ reply_only (plain_reply 415 request.closes))
        (λ _. at_so spot) (λ _. only request a 415 refl) is

    from_so : (root : List ℕ) (tag : ℕ) (spot : Result Spot NoParent) → PutsByEditTarget (server_state root c) (node_write id usage selector request) (t, tag) spot a → Fine a
    from_so root tag (Err none) is = conflicts_so request a (conflicts.NoParent (ancestor_uri root id t selector.steps)) is
    from_so root tag (Ok spot) is = behind request a (Some tag) (node_exists t selector) false (PutsFragment c (node_write id usage selector request) t spot a) (fragment_so spot) is

  node_put_so : (root : List ℕ) (usage : Usage) (selector : Selector) (version : Option (Tree × ℕ)) → PutsNodeIfStored (server_state root c) (node_write id usage selector request) version a → Fine a
  node_put_so root usage selector None is = conflicts_so request a (conflicts.NoParent (home_uri root id.auid id.home)) is
  node_put_so root usage selector (Some (t, tag)) is = from_so usage selector t root tag is.0 is.2

  document_deleted_so : (version : Option (Tree × ℕ)) → DeletesDocumentIfStored c id version request a → Fine a
  document_deleted_so None is = only request a 404 refl is
  document_deleted_so (Some (t, tag)) is =
      behind request a (Some tag) true false (a ≡ change_answer c id RemoveDocument request.closes (delete_reply request.closes))
      (λ so. by_store request a c id (delete_reply request.closes) (λ note. refl) (change_result c id RemoveDocument) (so ∙ as_the_store c id RemoveDocument request.closes (delete_reply request.closes))) is

  cut_so : (usage : Usage) (selector : Selector) (t : Tree) → RemovesNode c (node_write id usage selector request) t a → Fine a
  cut_so usage selector t is = by_plan request a c id (node_delete_reply request.closes) (λ note. refl) is.0 is.2

  node_deleted_so : (usage : Usage) (selector : Selector) (version : Option (Tree × ℕ)) → DeletesNodeIfStored c (node_write id usage selector request) version a → Fine a
  node_deleted_so usage selector None is = only request a 404 refl is
  node_deleted_so usage selector (Some (t, tag)) is =
      let Last : Type 0 = RemovesNode c (node_write id usage selector request) t a in
      either (node_exists t selector) (AppliesConditions request (representation (Some tag) true) false a Last) (a ≡ reply_only (plain_reply 404 request.closes))
      (λ _. behind request a (Some tag) true false Last (cut_so usage selector t)) (λ _. only request a 404 refl) is

-- ---- all in order

module _ (root : List ℕ) (c : Content) (request : Request) (a : Answer) where
  target_put_so : (target : Target) (usage : Usage) → PutsTarget (server_state root c) target usage request a → Fine a
  target_put_so (Document id) usage is = document_put_so c id request a usage is
  target_put_so (Node id selector) usage is = node_put_so c id request a root usage selector (version_of c id) is
  target_put_so (Deep auid home) usage is = conflicts_so request a (conflicts.NoParent (home_uri root auid home)) is
  target_put_so (Feed mode tag id) usage is = absurd is
  target_put_so (ElementFeed tag id selector raw) usage is = absurd is
  target_put_so (Flat id service) usage is = absurd is

  target_deleted_so : (target : Target) (usage : Usage) → DeletesTarget c target usage request a → Fine a
  target_deleted_so (Document id) usage is = document_deleted_so c id request a (version_of c id) is
  target_deleted_so (Node id selector) usage is = node_deleted_so c id request a usage selector (version_of c id) is
  target_deleted_so (Deep auid home) usage is = only request a 404 refl is
  target_deleted_so (Feed mode tag id) usage is = absurd is
  target_deleted_so (ElementFeed tag id selector raw) usage is = absurd is
  target_deleted_so (Flat id service) usage is = absurd is

  method_so : (target : Target) (method : Method) → AnswersByMethod (server_state root c) target method request a → Fine a
  method_so target Get is = read_so Get request a root c target is
  method_so target Head is = read_so Head request a root c target is
  method_so target Put is = no_usage request a (usage_of (auid_of target)) (λ usage. PutsTarget (server_state root c) target usage request a) (target_put_so target) is
  method_so target Delete is = no_usage request a (usage_of (auid_of target)) (λ usage. DeletesTarget c target usage request a) (target_deleted_so target) is
  method_so target Other is = absurd is

  user_so : (target : Target) (method : Method) → AnswersByUser (server_state root c) target method request a → Fine a
  user_so target method is =
      either (is_allowed (not (is_reading method)) (auid_of target) (home_of target) request.fields) (AnswersByMethod (server_state root c) target method request a) (a ≡ reply_only (plain_reply 403 request.closes))
      (λ _. method_so target method) (λ _. only request a 403 refl) is

  target_so : (target : Target) (method : Method) → AnswersByTarget (server_state root c) target method request a → Fine a
  target_so target method is =
      either (allows_method target method) (AnswersByUser (server_state root c) target method request a) (a ≡ reply_only (not_allowed_reply (is_read_only target) request.closes))
      (λ _. user_so target method) (λ _. fine request a (not_allowed_reply (is_read_only target) request.closes) refl) is

  fault_so : (fault : UriFault) → a ≡ reply_only (plain_reply (fault_status fault) request.closes) → Fine a
  fault_so OutsideRoot is = only request a 404 refl is
  fault_so UnknownAuid is = only request a 404 refl is
  fault_so BadShape is = only request a 400 refl is
  fault_so BadEscape is = only request a 400 refl is
  fault_so BadQuery is = only request a 400 refl is
  fault_so UnboundPrefix is = only request a 400 refl is
  fault_so BadSelector is = only request a 400 refl is

  answered_so : (read : Result Target UriFault) → IsAnswerByTarget root c read request a → Fine a
  answered_so (Err fault) is = fault_so fault is
  answered_so (Ok target) is = target_so target (method_of request.method) is

  pub no_503 : IsAnswer root c request a → Fine a
  no_503 is = answered_so is.0 is.2

pub never_503 : (root : List ℕ) (c : Content) (request : Request) (a : Answer) → IsAnswer root c request a → a.reply.status ≡ 503 → ⊥
never_503 root c request a is h = let z : true ≡ false = sym (ap (λ (n : ℕ). n == 503) h) ∙ no_503 root c request a is in cc
