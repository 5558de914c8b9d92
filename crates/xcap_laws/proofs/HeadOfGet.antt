-- The answer to a HEAD is the one to the GET, without its body.
use Rattle.std.proofs.Common.{◌≡◌, ℕ, Bool, true, false, List, Option, None, Some, Result, Ok, Err, encode_utf8_all, refl, sym, ap, subst}
use Rattle.std.specs.Bool.{MatchBool}
use Rattle.doc_names.specs.declared.doc_id.DocId.{DocId}
use Rattle.http_wire.specs.declared.request.Request.{Request}
use Rattle.list_resolve.specs.declared.fault.FlatFault.{FlatFault}
use Rattle.node_select.specs.declared.selector.Selector.{Selector}
use Rattle.reply_bodies.specs.Nodes.{encode_optional, found_text, node_media_type}
use Rattle.reply_text.specs.ReplyHeads.{SentReply, plain_reply}
use Rattle.reply_text.specs.declared.media_types.MediaType.{MediaType}
use Rattle.request_checks.specs.Conditions.{outcome_reply}
use Rattle.request_checks.specs.MediaTypes.{document_media_type}
use Rattle.request_checks.specs.Methods.{reply_for_method, method_of}
use Rattle.request_checks.specs.Rights.{is_allowed}
use Rattle.request_checks.specs.declared.conditions.Outcome.{Outcome}
use Rattle.request_checks.specs.declared.conditions.Outcome.TheVariants.{Unreadable, Go, NotModified, Failed}
use Rattle.request_checks.specs.declared.method.Method.{Method}
use Rattle.request_checks.specs.declared.method.Method.TheVariants.{Get, Head}
use Rattle.store_core.specs.Contents.{StoreContents as Content}
use Rattle.store_core.specs.Since.{ChangesSince, Gone, Unknown, ReportedChanges, since}
use Rattle.xcap_laws.specs.HeadRequests.{with_method, without_body}
use Rattle.xcap_machine.proofs.OneAnswer.{one_answer}
use Rattle.xcap_machine.specs.Answers.{Answer, AppliesConditions, found_reply, reply_only}
use Rattle.xcap_machine.specs.ElementFeeds.{AnswersElementQuery}
use Rattle.xcap_machine.specs.Feeds.{changes_since_answer}
use Rattle.xcap_machine.specs.FlatLists.{flat_answer}
use Rattle.xcap_machine.specs.ReadRequests.{SendsDocument, AnswersWithFound, SendsNode}
use Rattle.xcap_machine.specs.Requests.{AnswersByTarget, IsAnswer, fault_status}
use Rattle.xcap_machine.specs.inner.AnswerCases.{AnswersByMethod, AnswersByUser, ReadsTarget}
use Rattle.xcap_machine.specs.StandardRequests.{auid_of, home_of}
use Rattle.xcap_machine.specs.Resources.{Resource, absent, beyond_limit, there}
use Rattle.xcap_machine.specs.inner.AnswerCases.{AnswersUnlessStopped, IsAnswerByTarget}
use Rattle.xcap_machine.specs.inner.RecordValues.{element_query, feed_query, read_request, representation, server_state}
use Rattle.xcap_uri.specs.declared.fault.UriFault.{UriFault}
use Rattle.xcap_uri.specs.declared.target.Mode.{Mode}
use Rattle.xcap_uri.specs.declared.target.Target.{Target}
use Rattle.xcap_uri.specs.declared.target.Target.TheVariants.{Document, Node, Deep, Feed, ElementFeed, Flat}
use Rattle.xml_tree.specs.Print.{document_print}
use Rattle.xml_tree.specs.Tree.{Tree}

-- both cases of a test
on_both : (b : Bool) (P Q R S : Type 0) → (P → R) → (Q → S) → MatchBool b P Q → MatchBool b R S
on_both true P Q R S f g h = f h
on_both false P Q R S f g h = g h

module _ (root : List ℕ) (c : Content) (request : Request) (name : List ℕ) (a : Answer) where
  abbrev head : Request
  head = with_method name request

  abbrev bare : Answer
  bare = without_body a

  -- an answer without its body
  same_as : (b : Answer) → a ≡ b → bare ≡ without_body b
  same_as b is = ap (λ (x : Answer). without_body x) is

  by_outcome : (o : Outcome) (tag : Option ℕ) (P Q : Type 0) → (P → Q) → AnswersUnlessStopped (outcome_reply o tag request.closes) a P → AnswersUnlessStopped (outcome_reply o tag request.closes) bare Q
  by_outcome Unreadable tag P Q f is = same_as (reply_only (plain_reply 400 request.closes)) is
  by_outcome Go tag P Q f is = f is
  by_outcome NotModified tag P Q f is = ap (λ (x : Answer). without_body x) is
  by_outcome Failed tag P Q f is = same_as (reply_only (plain_reply 412 request.closes)) is

  behind : (tag : Option ℕ) (exists : Bool) (P Q : Type 0) → (P → Q) → AppliesConditions request (representation tag exists) true a P → AppliesConditions head (representation tag exists) true bare Q
  behind tag exists P Q f is = (
    outcome_reply is.1.0 tag request.closes,
    (is.1.0, is.1.1, refl),
    by_outcome is.1.0 tag P Q f (subst (λ (stop : Option SentReply). AnswersUnlessStopped stop a P) is.1.2 is.2),
  )

  found_head : (text : Option (List ℕ)) (tag : ℕ) (media : MediaType) → AnswersWithFound text tag media (read_request Get request) a → AnswersWithFound text tag media (read_request Head head) bare
  found_head None tag media is = same_as (reply_only (plain_reply 404 request.closes)) is
  found_head (Some text) tag media is =
      let reply = found_reply (Some tag) media text request.closes in
      behind (Some tag) true (a ≡ reply_only (reply_for_method Get reply)) (bare ≡ reply_only (reply_for_method Head reply)) (λ same. same_as (reply_only reply) same) is

  document_head : (r : Resource) (media : MediaType) → SendsDocument r media (read_request Get request) a → SendsDocument r media (read_request Head head) bare
  document_head absent media is = same_as (reply_only (plain_reply 404 request.closes)) is
  document_head beyond_limit media is = same_as (reply_only (plain_reply 507 request.closes)) is
  document_head (there t tag) media is = found_head (Some (encode_utf8_all (document_print t))) tag media is

  node_head : (r : Resource) (selector : Selector) → SendsNode r selector (read_request Get request) a → SendsNode r selector (read_request Head head) bare
  node_head absent selector is = same_as (reply_only (plain_reply 404 request.closes)) is
  node_head beyond_limit selector is = same_as (reply_only (plain_reply 507 request.closes)) is
  node_head (there t tag) selector is = found_head (encode_optional (found_text t selector)) tag (node_media_type selector.end) is

  story_head : (mode : Mode) (tag : ℕ) (id : DocId) (changes : ChangesSince) → a ≡ changes_since_answer root (feed_query mode tag id) changes (read_request Get request) → bare ≡ changes_since_answer root (feed_query mode tag id) changes (read_request Head head)
  story_head mode tag id Gone is = ap (λ (x : Answer). without_body x) is
  story_head mode tag id Unknown is = ap (λ (x : Answer). without_body x) is
  story_head mode tag id (ReportedChanges ns) is = ap (λ (x : Answer). without_body x) is

  element_head : (tag : ℕ) (id : DocId) (selector : Selector) (raw : List ℕ) (changes : ChangesSince) → AnswersElementQuery (server_state root c) (element_query tag id selector raw) changes (read_request Get request) a
      → AnswersElementQuery (server_state root c) (element_query tag id selector raw) changes (read_request Head head) bare
  element_head tag id selector raw Gone is = ap (λ (x : Answer). without_body x) is
  element_head tag id selector raw Unknown is = ap (λ (x : Answer). without_body x) is
  element_head tag id selector raw (ReportedChanges ns) is = (is.0, is.1, ap (λ (x : Answer). without_body x) is.2)

  flat_head : (answer : Result Tree FlatFault) → a ≡ flat_answer answer (read_request Get request) → bare ≡ flat_answer answer (read_request Head head)
  flat_head (Ok t) is = ap (λ (x : Answer). without_body x) is
  flat_head (Err fault) is = ap (λ (x : Answer). without_body x) is

  read_head : (target : Target) → ReadsTarget (server_state root c) target (read_request Get request) a → ReadsTarget (server_state root c) target (read_request Head head) bare
  read_head (Document id) is = (is.0, is.1, document_head is.0 (document_media_type id.auid) is.2)
  read_head (Node id selector) is = (is.0, is.1, node_head is.0 selector is.2)
  read_head (Deep auid home) is = same_as (reply_only (plain_reply 404 request.closes)) is
  read_head (Feed mode tag id) is = story_head mode tag id (since c id tag) is
  read_head (ElementFeed tag id selector raw) is = element_head tag id selector raw (since c id tag) is
  read_head (Flat id service) is = (is.0, is.1, flat_head is.0 is.2)

  user_head : (target : Target) → AnswersByUser (server_state root c) target Get request a → AnswersByUser (server_state root c) target Head head bare
  user_head target is =
      on_both (is_allowed false (auid_of target) (home_of target) request.fields) (AnswersByMethod (server_state root c) target Get request a) (a ≡ reply_only (plain_reply 403 request.closes))
      (AnswersByMethod (server_state root c) target Head head bare) (bare ≡ reply_only (plain_reply 403 request.closes))
      (read_head target) (same_as (reply_only (plain_reply 403 request.closes))) is

  answered_head : (read : Result Target UriFault) → method_of request.method ≡ Get → method_of name ≡ Head → IsAnswerByTarget root c read request a → IsAnswerByTarget root c read head bare
  answered_head (Err fault) get is_head is = same_as (reply_only (plain_reply (fault_status fault) request.closes)) is
  answered_head (Ok target) get is_head is =
      let here : AnswersByTarget (server_state root c) target Get request a = subst (λ (m : Method). AnswersByTarget (server_state root c) target m request a) get is in
      subst (λ (m : Method). AnswersByTarget (server_state root c) target m head bare) (sym is_head) (user_head target here)

  pub head_answer : method_of request.method ≡ Get → method_of name ≡ Head → IsAnswer root c request a → IsAnswer root c (with_method name request) (without_body a)
  head_answer get is_head is = (is.0, is.1, answered_head is.0 get is_head is.2)

pub head_is_get : (root : List ℕ) (c : Content) (request : Request) (name : List ℕ) (a b : Answer) → method_of request.method ≡ Get → method_of name ≡ Head → IsAnswer root c request a → IsAnswer root c (with_method name request) b → b ≡ without_body a
head_is_get root c request name a b get is_head is other = one_answer root c (with_method name request) b (without_body a) other (head_answer root c request name a get is_head is)
