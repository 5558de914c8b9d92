-- A request has exactly one answer on given store contents.
use Rattle.std.proofs.Common.{◌≡◌, ℕ, Bool, true, false, not, List, [], is_some, Option, None, Some, Result, Ok, Err, encode_utf8_all, refl, sym, ap, subst, ◌∙◌}
use Rattle.std.specs.Bool.{MatchBool}
use Rattle.std.specs.Prelude.{MatchResult}
use Rattle.xml_names.specs.declared.names.Decl.{Decl}
use Rattle.xml_tree.specs.Tree.{Tree}
use Rattle.tree_text.specs.Faults.{IsTextResult}
use Rattle.xml_tree.specs.Print.{document_print}
use Rattle.tree_text.specs.readers.WholeTexts.{read_body_text, read_document_text}
use Rattle.tree_text.proofs.ReadAnswers.{body_answer, text_answer}
use Rattle.tree_text.specs.Spellings.{ReadsTree, ReadsValue}
use Rattle.tree_text.proofs.SpellingLemmas.{one_tree_read, one_value_read, reads_tree, reads_value, tells, tells_value}
use Rattle.tree_text.specs.declared.fault.TextFault.{TextFault}
use Rattle.tree_text.specs.declared.fault.TextFault.TheVariants as texts
use Rattle.tree_text.specs.declared.fault.ValueFault.{ValueFault}
use Rattle.reply_bodies.specs.declared.conflicts.ErrorBody.{ErrorBody}
use Rattle.usage_docs.specs.Validation.{HasFirstFault}
use Rattle.usage_docs.specs.declared.validation.Fault.{Fault}
use Rattle.usage_docs.proofs.Judgements.{judged_one, judgement}
use Rattle.doc_names.specs.DocIds.{id_text}
use Rattle.doc_names.specs.Usages.{usage_of}
use Rattle.doc_names.specs.declared.usages.Usage.{Usage}
use Rattle.doc_names.specs.declared.doc_id.DocId.{DocId}
use Rattle.node_select.specs.declared.selector.End.{End}
use Rattle.node_select.specs.declared.selector.End.TheVariants as ends
use Rattle.node_select.specs.declared.selector.Selector.{Selector}
use Rattle.xcap_uri.specs.Ancestors.{ancestor_uri}
use Rattle.xcap_uri.specs.Targets.{IsTargetResult}
use Rattle.xcap_uri.proofs.TargetAnswers.{one_target, some_target}
use Rattle.xcap_uri.specs.declared.fault.UriFault.{UriFault}
use Rattle.xcap_uri.specs.declared.target.Target.{Target}
use Rattle.xcap_uri.specs.declared.target.Target.TheVariants.{Document, Node, Deep, Feed, ElementFeed, Flat}
use Rattle.edit_ops.specs.declared.change.Change.{Change}
use Rattle.edit_ops.specs.declared.change.Change.TheVariants.{RemoveDocument}
use Rattle.edit_rules.specs.AttributePuts.{IsAttrPlan}
use Rattle.edit_rules.specs.Deletions.{IsDeletePlan}
use Rattle.edit_rules.specs.ElementPuts.{IsPutPlan}
use Rattle.edit_rules.specs.Spots.{IsSpot, IsSpotOf}
use Rattle.edit_rules.specs.declared.edit_refusal.EditRefusal.{EditRefusal}
use Rattle.edit_rules.specs.declared.spot.NoParent.{NoParent}
use Rattle.edit_rules.specs.declared.spot.Spot.{Spot}
use Rattle.edit_rules.specs.declared.spot.Spot.TheVariants.{Over, Under, Beside, Value}
use Rattle.edit_rules.proofs.OneAnswer as plans
use Rattle.edit_rules.proofs.SomeAnswer.{some_attr, some_delete, some_put, some_spot}
use Rattle.reply_bodies.specs.declared.conflicts.ErrorBody.TheVariants as conflicts
use Rattle.reply_text.specs.ReplyHeads.{SentReply, plain_reply}
use Rattle.reply_text.specs.declared.media_types.MediaType.{MediaType}
use Rattle.http_wire.specs.declared.request.Request.{Request}
use Rattle.request_checks.specs.Conditions.{IsConditionReply}
use Rattle.request_checks.proofs.ReadConditions.{one_stop, some_stop}
use Rattle.request_checks.specs.MediaTypes.{document_media_type, has_media_type}
use Rattle.request_checks.specs.Methods.{reply_for_method, method_of, is_reading}
use Rattle.request_checks.specs.Rights.{is_allowed}
use Rattle.request_checks.specs.declared.method.Method.{Method}
use Rattle.request_checks.specs.declared.method.Method.TheVariants.{Get, Head, Put, Delete, Other}
use Rattle.reply_bodies.specs.Nodes.{encode_optional, found_text, node_media_type}
use Rattle.patch_rules.specs.Notices.{gone_notice}
use Rattle.element_watch.specs.WatchedElements.{IsElementNotice}
use Rattle.element_watch.proofs.States.{one_notice, some_notice}
use Rattle.store_core.specs.Since.{ChangesSince, Gone, Unknown, ReportedChanges, since}
use Rattle.store_core.specs.Contents.{StoreContents as Content}
use Rattle.list_resolve.proofs.OneList.{one_list, some_list}
use Rattle.xcap_machine.specs.Answers.{Answer, AppliesConditions, error_reply, found_reply, not_allowed_reply, reply_only}
use Rattle.xcap_machine.specs.Requests.{AnswersByTarget, IsAnswer, fault_status}
use Rattle.xcap_machine.specs.inner.AnswerCases.{AnswersByMethod, AnswersByUser, ReadsTarget as Reads}
use Rattle.xcap_machine.specs.StandardRequests.{DeletesTarget, PutsTarget, auid_of, home_of, is_namespace_bindings, is_read_only, allows_method}
use Rattle.xcap_machine.specs.ElementFeeds.{AnswersElementQuery}
use Rattle.xcap_machine.specs.Feeds.{sends_notice, changes_since_answer}
use Rattle.xcap_machine.specs.FlatLists.{IsFlatDocument, flat_document_result, flat_answer}
use Rattle.xcap_machine.specs.ReadRequests.{SendsDocument, AnswersWithFound, SendsNode}
use Rattle.xcap_machine.specs.Resources.{IsResourceOf, Resource, absent, beyond_limit, there, version_of}
use Rattle.xcap_machine.specs.NodeWrites.{RemovesNode, PutsAtEditTarget, PutsElement, PutsFragment, PutsByEditTarget, PutsValue, node_delete_reply, node_exists, max_height_at, plan_answer, planned_put_answer, edit_target_scope, value_conflict}
use Rattle.xcap_machine.specs.DocumentWrites.{WritesIfStored, PutsBody, PutsDocument, PutsParsedBody, change_answer, delete_reply, missing_parent_answer, put_answer, text_conflict}
use Rattle.xcap_machine.specs.inner.AnswerCases.{DeletesDocumentIfStored, DeletesNodeIfStored, PutsNodeIfStored, PutsNodeOfVersion, IsAnswerByTarget, judgement_answer, version_tag as tag_of, AnswersUnlessStopped}
use Rattle.xcap_machine.specs.inner.RecordValues.{element_query, feed_query, read_request, representation, server_state, node_write}
use Rattle.xcap_machine.proofs.ResourceLemmas.{leads, only_leads, resource}

-- there is an answer of this kind, and there is no other
record IsOne (Is : Answer → Type 0) : Type 0 where
  answer : Answer
  is : Is answer
  only : (a : Answer) → Is a → a ≡ answer

one_equal : (x : Answer) → IsOne (λ a. a ≡ x)
one_equal x = record { answer = x; is = refl; only = λ a p. p }

one_either : (test : Bool) (P Q : Answer → Type 0) → (test ≡ true → IsOne P) → (test ≡ false → IsOne Q) → IsOne (λ a. MatchBool test (P a) (Q a))
one_either true P Q p q = p refl
one_either false P Q p q = q refl

one_stored : (u : Option Usage) (request : Request) (P : Usage → Answer → Type 0) → ((usage : Usage) → IsOne (P usage)) → IsOne (λ a. WritesIfStored u request a (λ usage. P usage a))
one_stored None request P p = one_equal (reply_only (plain_reply 403 request.closes))
one_stored (Some usage) request P p = p usage

-- the answer follows from one thing that is found so
one_by : {R : Type 0} (IsFound : R → Type 0) (P : R → Answer → Type 0) (r : R) → IsFound r → ((x : R) → IsFound x → x ≡ r) → IsOne (P r) → IsOne (λ a. (x : R) × IsFound x × P x a)
one_by IsFound P r found_reply only_r one = record { answer = one.answer; is = (r, found_reply, one.is); only = λ a h. one.only a (subst (λ x. P x a) (only_r h.0 h.1) h.2) }

one_past : (stop : Option SentReply) (P : Answer → Type 0) → IsOne P → IsOne (λ a. AnswersUnlessStopped stop a (P a))
one_past None P p = p
one_past (Some reply) P p = one_equal (reply_only reply)

one_behind : (request : Request) (tag : Option ℕ) (exists reading : Bool) (P : Answer → Type 0) → IsOne P → IsOne (λ a. AppliesConditions request (representation tag exists) reading a (P a))
one_behind request tag exists reading P p =
    let stop = some_stop request tag exists reading in
    one_by (IsConditionReply request tag exists reading) (λ s a. AnswersUnlessStopped s a (P a)) stop.0 stop.1 (λ s is. one_stop request tag exists reading s stop.0 is stop.1) (one_past stop.0 P p)

-- ---- reading

module _ (method : Method) (request : Request) where
  one_found : (text : Option (List ℕ)) (tag : ℕ) (media : MediaType) → IsOne (λ a. AnswersWithFound text tag media (read_request method request) a)
  one_found None tag media = one_equal (reply_only (plain_reply 404 request.closes))
  one_found (Some text) tag media =
      let last : Answer = reply_only (reply_for_method method (found_reply (Some tag) media text request.closes)) in
      one_behind request (Some tag) true true (λ a. a ≡ last) (one_equal last)

  one_document_sent : (r : Resource) (media : MediaType) → IsOne (λ a. SendsDocument r media (read_request method request) a)
  one_document_sent absent media = one_equal (reply_only (plain_reply 404 request.closes))
  one_document_sent beyond_limit media = one_equal (reply_only (plain_reply 507 request.closes))
  one_document_sent (there t tag) media = one_found (Some (encode_utf8_all (document_print t))) tag media

  one_node_sent : (r : Resource) (selector : Selector) → IsOne (λ a. SendsNode r selector (read_request method request) a)
  one_node_sent absent selector = one_equal (reply_only (plain_reply 404 request.closes))
  one_node_sent beyond_limit selector = one_equal (reply_only (plain_reply 507 request.closes))
  one_node_sent (there t tag) selector = one_found (encode_optional (found_text t selector)) tag (node_media_type selector.end)

  one_element_told : (root : List ℕ) (c : Content) (tag : ℕ) (id : DocId) (selector : Selector) (raw : List ℕ) (changes_since : ChangesSince) → since c id tag ≡ changes_since → IsOne (λ a. AnswersElementQuery (server_state root c) (element_query tag id selector raw) changes_since (read_request method request) a)
  one_element_told root c tag id selector raw Gone is = one_equal (sends_notice (gone_notice root (id_text id) tag) (read_request method request))
  one_element_told root c tag id selector raw Unknown is = one_equal (reply_only (plain_reply 410 request.closes))
  one_element_told root c tag id selector raw (ReportedChanges ns) is =
      let notice = some_notice root c tag id selector raw ns is in
      one_by (IsElementNotice root (record { doc = id; selector = selector; raw = raw }) c ns) (λ n a. a ≡ sends_notice n (read_request method request)) notice.0 notice.1 (λ n h. one_notice root c id selector raw ns n notice.0 h notice.1) (one_equal (sends_notice notice.0 (read_request method request)))

  one_read : (root : List ℕ) (c : Content) (target : Target) → IsOne (λ a. Reads (server_state root c) target (read_request method request) a)
  one_read root c (Document id) =
      let r = resource c id in
      one_by (IsResourceOf c id) (λ r a. SendsDocument r (document_media_type id.auid) (read_request method request) a) r (leads c id) (only_leads c id) (one_document_sent r (document_media_type id.auid))
  one_read root c (Node id selector) =
      let r = resource c id in
      one_by (IsResourceOf c id) (λ r a. SendsNode r selector (read_request method request) a) r (leads c id) (only_leads c id) (one_node_sent r selector)
  one_read root c (Deep auid home) = one_equal (reply_only (plain_reply 404 request.closes))
  one_read root c (Feed mode tag id) = one_equal (changes_since_answer root (feed_query mode tag id) (since c id tag) (read_request method request))
  one_read root c (ElementFeed tag id selector raw) = one_element_told root c tag id selector raw (since c id tag) refl
  one_read root c (Flat id service) =
      let list = some_list c root id service in
      let document = flat_document_result list.0 in
      one_by (IsFlatDocument root c id service) (λ x a. a ≡ flat_answer x (read_request method request)) document (list.0, list.1, refl) (λ x is. is.2 ∙ ap flat_document_result (one_list c root id service is.0 list.0 is.1 list.1))
      (one_equal (flat_answer document (read_request method request)))

-- ---- texts that are read

-- the answer follows from what is read, and all that is read leads to the same one
one_so : {R : Type 0} (IsFound : R → Type 0) (P : R → Answer → Type 0) (r : R) → IsFound r → ((x : R) (a : Answer) → IsFound x → P x a → P r a) → IsOne (P r) → IsOne (λ a. (x : R) × IsFound x × P x a)
one_so IsFound P r found_reply moved one = record { answer = one.answer; is = (r, found_reply, one.is); only = λ a h. one.only a (moved h.0 a h.1 h.2) }

-- what follows a tree, and the conflict of a fault
module _ (malformed : ErrorBody) (closes : Bool) (Then : Tree → Answer → Type 0) where
  abbrev AfterRead : Result Tree TextFault → Answer → Type 0
  AfterRead read a = MatchResult read (λ t. Then t a) (λ fault. a ≡ reply_only (error_reply (text_conflict malformed fault) closes))

  abbrev AfterTold : Result Tree ErrorBody → Answer → Type 0
  AfterTold read a = MatchResult read (λ t. Then t a) (λ body. a ≡ reply_only (error_reply body closes))

  elsewhere : (fault : TextFault) → (fault ≡ texts.NotUtf8 → ⊥) → text_conflict malformed fault ≡ malformed
  elsewhere texts.NotUtf8 other = absurd (other refl)
  elsewhere (texts.NotWellFormed place) other = refl
  elsewhere (texts.Doctype place) other = refl
  elsewhere (texts.TooDeep place) other = refl
  elsewhere (texts.Namespace place) other = refl
  elsewhere (texts.RepeatedAttribute place) other = refl

  module _ (limit : ℕ) (scope : List (List Decl)) (bytes : List ℕ) where
    abbrev told : Result Tree TextFault → Result Tree ErrorBody
    told read = tells limit scope bytes (text_conflict malformed) malformed elsewhere read

    forth : (read : Result Tree TextFault) (a : Answer) → AfterRead read a → AfterTold (told read) a
    forth (Ok t) a h = h
    forth (Err fault) a h = h

    back : (read : Result Tree TextFault) (a : Answer) → AfterTold (told read) a → AfterRead read a
    back (Ok t) a h = h
    back (Err fault) a h = h

    one_after_read : ((t : Tree) → IsTextResult limit scope bytes (Ok t) → IsOne (Then t)) → IsOne (λ a. (read : Result Tree TextFault) × ReadsTree limit scope bytes read × AfterRead read a)
    one_after_read one =
        let result = read_document_text limit scope bytes in
        let answer = text_answer limit scope bytes in
        one_so (ReadsTree limit scope bytes) AfterRead result (reads_tree limit scope bytes result answer)
        (λ x a reads h. back result a (subst (λ (r : Result Tree ErrorBody). AfterTold r a) (one_tree_read limit scope bytes (text_conflict malformed) malformed elsewhere x result reads answer) (forth x a h)))
        (by result answer)
      where
        by : (read : Result Tree TextFault) → IsTextResult limit scope bytes read → IsOne (AfterRead read)
        by (Ok t) answer = one t answer
        by (Err fault) answer = one_equal (reply_only (error_reply (text_conflict malformed fault) closes))

-- and likewise for a value
module _ (closes : Bool) (Then : List ℕ → Answer → Type 0) (bytes : List ℕ) where
  abbrev AfterValue : Result (List ℕ) ValueFault → Answer → Type 0
  AfterValue read a = MatchResult read (λ value. Then value a) (λ fault. a ≡ reply_only (error_reply (value_conflict fault) closes))

  abbrev AfterToldValue : Result (List ℕ) ErrorBody → Answer → Type 0
  AfterToldValue read a = MatchResult read (λ value. Then value a) (λ body. a ≡ reply_only (error_reply body closes))

  abbrev told_value : Result (List ℕ) ValueFault → Result (List ℕ) ErrorBody
  told_value read = tells_value bytes value_conflict conflicts.NotXmlAttValue (λ place. refl) read

  value_forth : (read : Result (List ℕ) ValueFault) (a : Answer) → AfterValue read a → AfterToldValue (told_value read) a
  value_forth (Ok value) a h = h
  value_forth (Err fault) a h = h

  value_back : (read : Result (List ℕ) ValueFault) (a : Answer) → AfterToldValue (told_value read) a → AfterValue read a
  value_back (Ok value) a h = h
  value_back (Err fault) a h = h

  one_after_value : ((value : List ℕ) → IsOne (Then value)) → IsOne (λ a. (read : Result (List ℕ) ValueFault) × ReadsValue bytes read × AfterValue read a)
  one_after_value one =
      let result = read_body_text bytes in
      let answer = body_answer bytes in
      one_so (ReadsValue bytes) AfterValue result (reads_value bytes result answer)
      (λ x a reads h. value_back result a (subst (λ (r : Result (List ℕ) ErrorBody). AfterToldValue r a) (one_value_read bytes value_conflict conflicts.NotXmlAttValue (λ place. refl) x result reads answer) (value_forth x a h)))
      (by result)
    where
      by : (read : Result (List ℕ) ValueFault) → IsOne (AfterValue read)
      by (Ok value) = one value
      by (Err fault) = one_equal (reply_only (error_reply (value_conflict fault) closes))

-- ---- PUT of documents

one_judged : (usage : Usage) (closes : Bool) (answer : Tree → Answer) (t : Tree) → IsOne (λ a. (judgement : Option Fault) × HasFirstFault usage t judgement × (a ≡ judgement_answer judgement closes (answer t)))
one_judged usage closes answer t =
    let found_reply = judgement usage t in
    one_by (HasFirstFault usage t) (λ j a. a ≡ judgement_answer j closes (answer t)) found_reply.0 found_reply.1 (λ j is. judged_one usage t j found_reply.0 is found_reply.1) (one_equal (judgement_answer found_reply.0 closes (answer t)))

one_spelled : (usage : Usage) (request : Request) (answer : Tree → Answer) → IsOne (λ a. PutsParsedBody usage request answer a)
one_spelled usage request answer =
    one_after_read conflicts.NotWellFormed request.closes (λ t a. (judgement : Option Fault) × HasFirstFault usage t judgement × (a ≡ judgement_answer judgement request.closes (answer t))) 64 [] request.body (λ t _. one_judged usage request.closes answer t)

one_body : (usage : Usage) (media : MediaType) (request : Request) (answer : Tree → Answer) → IsOne (λ a. PutsBody usage media request answer a)
one_body usage media request answer =
    one_either (has_media_type media request.fields) (λ a. PutsParsedBody usage request answer a) (λ a. a ≡ reply_only (plain_reply 415 request.closes))
    (λ _. one_spelled usage request answer) (λ _. one_equal (reply_only (plain_reply 415 request.closes)))

module _ (c : Content) (id : DocId) (request : Request) where
  one_document_put : (usage : Usage) → IsOne (λ a. PutsDocument c id usage request a)
  one_document_put usage =
      one_behind request (tag_of (version_of c id)) (is_some (version_of c id)) false (λ a. PutsBody usage (document_media_type id.auid) request (put_answer c id request.closes) a)
      (one_body usage (document_media_type id.auid) request (put_answer c id request.closes))

  -- ---- PUT of nodes

  module _ (usage : Usage) (selector : Selector) (t : Tree) where
    abbrev ElementPlanned : Spot → Tree → Answer → Type 0
    ElementPlanned spot e a = (plan : Result Change EditRefusal) × IsPutPlan (record { usage = usage; document = t; steps = selector.steps }) spot e plan × (a ≡ planned_put_answer c (node_write id usage selector request) t plan)

    one_element_planned : (spot : Spot) → selector.end ≡ ends.Element → IsSpotOf t selector spot → (e : Tree) → IsOne (ElementPlanned spot e)
    one_element_planned spot ends_so is e =
        let plan = some_put usage t selector spot e ends_so is in
        one_by (IsPutPlan (record { usage = usage; document = t; steps = selector.steps }) spot e) (λ p a. a ≡ planned_put_answer c (node_write id usage selector request) t p) plan.0 plan.1
        (λ p h. plans.one_put usage t selector.steps spot e p plan.0 h plan.1) (one_equal (planned_put_answer c (node_write id usage selector request) t plan.0))

    one_element : (spot : Spot) → selector.end ≡ ends.Element → IsSpotOf t selector spot → IsOne (λ a. PutsElement c (node_write id usage selector request) t spot a)
    one_element spot ends_so is =
        one_after_read conflicts.NotXmlFrag request.closes (ElementPlanned spot) (max_height_at spot) (edit_target_scope t spot) request.body (λ e _. one_element_planned spot ends_so is e)

    abbrev ValuePlanned : List ℕ → List ℕ → Answer → Type 0
    ValuePlanned p value a = (plan : Result Change EditRefusal) × IsAttrPlan (record { usage = usage; document = t; steps = selector.steps }) selector.end p value plan × (a ≡ planned_put_answer c (node_write id usage selector request) t plan)

    one_value_planned : (p : List ℕ) → IsSpotOf t selector (Value p) → (value : List ℕ) → IsOne (ValuePlanned p value)
    one_value_planned p is value =
        let plan = some_attr usage t selector p value is in
        one_by (IsAttrPlan (record { usage = usage; document = t; steps = selector.steps }) selector.end p value) (λ x a. a ≡ planned_put_answer c (node_write id usage selector request) t x) plan.0 plan.1
        (λ x h. plans.one_attr usage t selector.steps selector.end p value x plan.0 h plan.1) (one_equal (planned_put_answer c (node_write id usage selector request) t plan.0))

    one_value : (p : List ℕ) → IsSpotOf t selector (Value p) → IsOne (λ a. PutsValue c (node_write id usage selector request) t p a)
    one_value p is =
        one_after_value request.closes (ValuePlanned p) request.body (one_value_planned p is)

    one_at : (spot : Spot) → IsSpotOf t selector spot → IsOne (λ a. PutsAtEditTarget c (node_write id usage selector request) t spot a)
    one_at (Over p) is = one_element (Over p) is.0 is
    one_at (Under q) is = one_element (Under q) is.0 is
    one_at Beside is = one_element Beside is.0 is
    one_at (Value p) is = one_value p is

    one_fragment : (spot : Spot) → IsSpotOf t selector spot → IsOne (λ a. PutsFragment c (node_write id usage selector request) t spot a)
    one_fragment spot is =
        one_either (has_media_type (node_media_type selector.end) request.fields) (λ a. PutsAtEditTarget c (node_write id usage selector request) t spot a) (λ a. a ≡ reply_only (plain_reply 415 request.closes))
        (λ _. one_at spot is) (λ _. one_equal (reply_only (plain_reply 415 request.closes)))

    one_from : (root : List ℕ) (tag : ℕ) (spot : Result Spot NoParent) → IsSpot t selector spot → IsOne (λ a. PutsByEditTarget (server_state root c) (node_write id usage selector request) (t, tag) spot a)
    one_from root tag (Err none) is = one_equal (reply_only (error_reply (conflicts.NoParent (ancestor_uri root id t selector.steps)) request.closes))
    one_from root tag (Ok spot) is = one_behind request (Some tag) (node_exists t selector) false (λ a. PutsFragment c (node_write id usage selector request) t spot a) (one_fragment spot is)

    one_node_of : (root : List ℕ) (tag : ℕ) → IsOne (λ a. PutsNodeOfVersion (server_state root c) (node_write id usage selector request) (t, tag) a)
    one_node_of root tag =
        let spot = some_spot t selector in
        one_by (IsSpot t selector) (λ s a. PutsByEditTarget (server_state root c) (node_write id usage selector request) (t, tag) s a) spot.0 spot.1 (λ s is. plans.one_spot t selector s spot.0 is spot.1) (one_from root tag spot.0 spot.1)

  one_node_put : (root : List ℕ) (usage : Usage) (selector : Selector) (version : Option (Tree × ℕ)) → IsOne (λ a. PutsNodeIfStored (server_state root c) (node_write id usage selector request) version a)
  one_node_put root usage selector None = one_equal (missing_parent_answer root id.auid id.home request)
  one_node_put root usage selector (Some (t, tag)) = one_node_of usage selector t root tag

  -- ---- DELETE

  one_document_deleted : (version : Option (Tree × ℕ)) → IsOne (λ a. DeletesDocumentIfStored c id version request a)
  one_document_deleted None = one_equal (reply_only (plain_reply 404 request.closes))
  one_document_deleted (Some (t, tag)) =
      let last : Answer = change_answer c id RemoveDocument request.closes (delete_reply request.closes) in
      one_behind request (Some tag) true false (λ a. a ≡ last) (one_equal last)

  one_cut : (usage : Usage) (selector : Selector) (t : Tree) → (selector.end ≡ ends.Namespaces → ⊥) → IsOne (λ a. RemovesNode c (node_write id usage selector request) t a)
  one_cut usage selector t node =
      let plan = some_delete usage t selector node in
      let answer : Result Change EditRefusal → Answer = λ p. plan_answer c id request.closes (node_delete_reply request.closes) p in
      one_by (IsDeletePlan usage t selector) (λ p a. a ≡ answer p) plan.0 plan.1 (λ p h. plans.one_delete usage t selector p plan.0 h plan.1) (one_equal (answer plan.0))

  one_node_deleted : (usage : Usage) (selector : Selector) → (selector.end ≡ ends.Namespaces → ⊥) → (version : Option (Tree × ℕ)) → IsOne (λ a. DeletesNodeIfStored c (node_write id usage selector request) version a)
  one_node_deleted usage selector node None = one_equal (reply_only (plain_reply 404 request.closes))
  one_node_deleted usage selector node (Some (t, tag)) =
      let Last : Answer → Type 0 = λ a. RemovesNode c (node_write id usage selector request) t a in
      let missing : Answer = reply_only (plain_reply 404 request.closes) in
      one_either (node_exists t selector) (λ a. AppliesConditions request (representation (Some tag) true) false a (Last a)) (λ a. a ≡ missing) (λ _. one_behind request (Some tag) true false Last (one_cut usage selector t node)) (λ _. one_equal missing)

-- ---- all in order

-- namespace bindings aren't written
not_bindings : (selector : Selector) → not (is_namespace_bindings selector.end) ≡ true → selector.end ≡ ends.Namespaces → ⊥
not_bindings selector written is = let z : false ≡ true = sym (ap (λ (end : End). not (is_namespace_bindings end)) is) ∙ written in cc

module _ (root : List ℕ) (c : Content) (request : Request) where
  -- a target that can only be read isn't written
  one_put : (target : Target) (usage : Usage) → allows_method target Put ≡ true → IsOne (λ a. PutsTarget (server_state root c) target usage request a)
  one_put (Document id) usage written = one_document_put c id request usage
  one_put (Node id selector) usage written = one_node_put c id request root usage selector (version_of c id)
  one_put (Deep auid home) usage written = one_equal (missing_parent_answer root auid home request)
  one_put (Feed mode tag id) usage written = let none : ⊥ = cc in absurd none
  one_put (ElementFeed tag id selector raw) usage written = let none : ⊥ = cc in absurd none
  one_put (Flat id service) usage written = let none : ⊥ = cc in absurd none

  one_deleted : (target : Target) (usage : Usage) → allows_method target Delete ≡ true → IsOne (λ a. DeletesTarget c target usage request a)
  one_deleted (Document id) usage written = one_document_deleted c id request (version_of c id)
  one_deleted (Node id selector) usage written = one_node_deleted c id request usage selector (not_bindings selector written) (version_of c id)
  one_deleted (Deep auid home) usage written = one_equal (reply_only (plain_reply 404 request.closes))
  one_deleted (Feed mode tag id) usage written = let none : ⊥ = cc in absurd none
  one_deleted (ElementFeed tag id selector raw) usage written = let none : ⊥ = cc in absurd none
  one_deleted (Flat id service) usage written = let none : ⊥ = cc in absurd none

  one_by_method : (target : Target) (method : Method) → allows_method target method ≡ true → IsOne (λ a. AnswersByMethod (server_state root c) target method request a)
  one_by_method target Get takes_it = one_read Get request root c target
  one_by_method target Head takes_it = one_read Head request root c target
  one_by_method target Put takes_it = one_stored (usage_of (auid_of target)) request (λ usage a. PutsTarget (server_state root c) target usage request a) (λ usage. one_put target usage takes_it)
  one_by_method target Delete takes_it = one_stored (usage_of (auid_of target)) request (λ usage a. DeletesTarget c target usage request a) (λ usage. one_deleted target usage takes_it)
  one_by_method target Other takes_it = let none : ⊥ = cc in absurd none

  one_by_user : (target : Target) (method : Method) → allows_method target method ≡ true → IsOne (λ a. AnswersByUser (server_state root c) target method request a)
  one_by_user target method takes_it =
      one_either (is_allowed (not (is_reading method)) (auid_of target) (home_of target) request.fields) (λ a. AnswersByMethod (server_state root c) target method request a) (λ a. a ≡ reply_only (plain_reply 403 request.closes))
      (λ _. one_by_method target method takes_it) (λ _. one_equal (reply_only (plain_reply 403 request.closes)))

  one_by_target : (target : Target) (method : Method) → IsOne (λ a. AnswersByTarget (server_state root c) target method request a)
  one_by_target target method =
      one_either (allows_method target method) (λ a. AnswersByUser (server_state root c) target method request a) (λ a. a ≡ reply_only (not_allowed_reply (is_read_only target) request.closes))
      (one_by_user target method) (λ _. one_equal (reply_only (not_allowed_reply (is_read_only target) request.closes)))

  one_answered : (read : Result Target UriFault) → IsOne (λ a. IsAnswerByTarget root c read request a)
  one_answered (Err fault) = one_equal (reply_only (plain_reply (fault_status fault) request.closes))
  one_answered (Ok target) = one_by_target target (method_of request.method)

  exactly_one : IsOne (IsAnswer root c request)
  exactly_one =
      let read = some_target root request.target in
      one_by (IsTargetResult root request.target) (λ r a. IsAnswerByTarget root c r request a) read.0 read.1 (λ r is. one_target root request.target r read.0 is read.1) (one_answered read.0)

pub some_answer : (root : List ℕ) (c : Content) (request : Request) → (a : Answer) × IsAnswer root c request a
some_answer root c request = let one = exactly_one root c request in (one.answer, one.is)

pub one_answer : (root : List ℕ) (c : Content) (request : Request) (a b : Answer) → IsAnswer root c request a → IsAnswer root c request b → a ≡ b
one_answer root c request a b p q = let one = exactly_one root c request in one.only a p ∙ sym (one.only b q)

pub one_of_target : (root : List ℕ) (c : Content) (request : Request) (target : Target) (method : Method) (a b : Answer) → AnswersByTarget (server_state root c) target method request a → AnswersByTarget (server_state root c) target method request b → a ≡ b
one_of_target root c request target method a b p q = let one = one_by_target root c request target method in one.only a p ∙ sym (one.only b q)
