-- A follower that took what the machine sends holds the present document.
use Rattle.std.proofs.Common.{◌≡◌, ◌⊎◌, inl, inr, ℕ, Bool, true, false, cond, List, [], ◌∷◌, ◌++◌, length, Option, None, Some, option_map, Result, Ok, Err, decimal, encode_utf8_all, refl, sym, ap, ◌∙◌, subst, arith}
use Rattle.std.specs.Option.{option_map_or}
use Rattle.std.specs.Prelude.{◌==◌, if◌then◌else◌}
use Rattle.std.specs.Result.{result_map_both}
use Rattle.std.proofs.lemmas.Bool.{cond-true, eq-eqb}
use Rattle.xml_names.specs.declared.limits.TheConstants.{MAX_LEVELS}
use Rattle.xml_names.specs.declared.read_error.ReadError.{ReadError}
use Rattle.xml_names.specs.declared.read_error.ReadError.TheVariants as errors
use Rattle.xml_tree.specs.Print.{document_print}
use Rattle.xml_tree.specs.Tree.{Tree}
use Rattle.tree_text.proofs.OneAnswer.{one_text}
use Rattle.tree_text.specs.Faults.{IsTextResult}
use Rattle.doc_names.specs.declared.doc_id.DocId.{DocId}
use Rattle.doc_names.specs.declared.doc_id.Home.{Home}
use Rattle.doc_names.specs.declared.doc_id.Home.TheVariants.{Global, User}
use Rattle.http_wire.specs.declared.request.Request.{Request}
use Rattle.reply_text.specs.ReplyHeads.{HeadFields, SentReply, plain_reply, sent_reply}
use Rattle.request_checks.specs.Conditions.{outcome_reply}
use Rattle.request_checks.specs.MediaTypes.{document_media_type}
use Rattle.request_checks.specs.Methods.{method_of}
use Rattle.request_checks.specs.Rights.{is_allowed}
use Rattle.request_checks.specs.declared.conditions.Outcome.{Outcome}
use Rattle.request_checks.specs.declared.conditions.Outcome.TheVariants as outcomes
use Rattle.request_checks.specs.declared.method.Method.{Method}
use Rattle.request_checks.specs.declared.method.Method.TheVariants.{Get}
use Rattle.store_core.specs.Contents.{Represents, StoredDocument, StoreContents, contents_of, stored_document}
use Rattle.store_core.specs.DocumentChanges.{find_document, document_id, stored_id}
use Rattle.store_core.specs.Since.{ChangesSince, Gone, ReportedChanges, Unknown, since}
use Rattle.store_core.specs.State.{Document, State, Version, versions}
use Rattle.store_core.specs.ValidStates.{IsUserHome, IsValidState}
use Rattle.patch_rules.specs.Replay.{ReplayAnswer, ReplayFault, ReplicaContents, IsReplayOutcome, Removed, is_notice}
use Rattle.patch_laws.proofs.Outcomes.{one_outcome}
use Rattle.patch_apply.specs.ApplyAnswers.{IsApplyAnswer}
use Rattle.patch_apply.specs.DiffTexts.{NoticeAnswer, notice_or_fault}
use Rattle.patch_apply.specs.Views.{answer_view, replica_view}
use Rattle.patch_apply.specs.declared.fault.ApplyFault.{ApplyFault}
use Rattle.patch_apply.specs.declared.fault.NoticeFault.{NoticeFault}
use Rattle.patch_apply.specs.declared.replica.Applied.{Applied}
use Rattle.patch_apply.specs.declared.replica.Applied.TheVariants as answers
use Rattle.patch_apply.specs.declared.replica.ReplicaVersion.{ReplicaVersion}
use Rattle.xcap_uri.specs.PrintedNames.{is_name_of}
use Rattle.xcap_uri.specs.Targets.{IsTargetResult}
use Rattle.xcap_uri.specs.declared.fault.UriFault.{UriFault}
use Rattle.xcap_uri.specs.declared.target.Mode.{Mode}
use Rattle.xcap_uri.specs.declared.target.Mode.TheVariants.{Aggregate}
use Rattle.xcap_uri.specs.declared.target.Target.{Target}
use Rattle.xcap_uri.specs.declared.target.Target.TheVariants.{Feed}
use Rattle.xcap_uri.specs.declared.target.Target.TheVariants.{Document as a_document}
use Rattle.xcap_uri.proofs.TargetAnswers.{one_target}
use Rattle.xcap_client.specs.Calls.{JudgesResponse, is_success, succeeds, refuses, lacks_memory}
use Rattle.xcap_client.specs.declared.client_fault.ClientFault.{ClientFault}
use Rattle.xcap_client.specs.declared.client_fault.ClientFault.TheVariants as clients
use Rattle.xcap_client.specs.declared.response.Response.{Response}
use Rattle.client_follower.specs.FetchedDocuments.{BringsVersion, TakesDocument, has_no_tag, is_refused_with, spells_a_document, spells_none, lacks_memory as lacks_memory_too}
use Rattle.client_follower.specs.FollowerFaults.{fault_of_client}
use Rattle.client_follower.specs.FeedResults.{TakesFeed, TakesNotice, applies, is_none, lacks_memory as reads_none, round_outcome}
use Rattle.client_follower.specs.declared.follower_fault.FollowerFault.{FollowerFault}
use Rattle.client_follower.specs.declared.feed_rounds.Round.{Round}
use Rattle.xcap_machine.specs.Answers.{Answer, found_reply, reply_only}
use Rattle.xcap_machine.specs.Feeds.{changes_since_answer}
use Rattle.xcap_machine.specs.ReadRequests.{SendsDocument}
use Rattle.xcap_machine.specs.Requests.{AnswersByTarget, IsAnswer}
use Rattle.xcap_machine.specs.inner.AnswerCases.{AnswersByMethod}
use Rattle.xcap_machine.specs.StandardRequests.{auid_of, home_of}
use Rattle.xcap_machine.specs.Resources.{IsResourceInHome, Resource, absent, there}
use Rattle.xcap_machine.specs.SubscriberReplicas.{patch_answer_between, replica_of_version}
use Rattle.xcap_uri.specs.Roots.{IsRoot, authority_of, path_of}
use Rattle.xcap_machine.specs.Machine.{ValidStep}
use Rattle.xcap_machine.specs.SubscriberVersions.{UpdatesSubscriber, UpdatesReplica, UpdatesReplicaFrom, UpdatesReplicaIfStored}
use Rattle.xcap_machine.specs.ReachedStates.{ReachesByValidSteps, HasVersion}
use Rattle.xcap_machine.specs.inner.AnswerCases.{AnswersUnlessStopped, IsAnswerByTarget}
use Rattle.xcap_machine.specs.inner.RecordValues.{feed_query, read_request, server_state}
use Rattle.xcap_machine.proofs.FeedAnswers.{holds}
use Rattle.xcap_machine.proofs.Cases.{either}
use Rattle.xcap_machine.proofs.OneVersion.{held_there}
use Rattle.xcap_machine.proofs.SubscriberLemmas.{one_of_a_tag}
use Rattle.xcap_laws.specs.Followers.{IsCurrentReplica, replica_of}
use Rattle.xcap_laws.proofs.ReplyReadings.{IsFramedBy}
use Rattle.xcap_laws.proofs.FetchedVersions.{fetched as fetched_version}

-- the response has the status and the body of the reply, and its etag, where it has one
pub record IsReceivedAs (reply : SentReply) (response : Response) : Type 0 where
  pub status : response.status ≡ reply.status
  pub body : response.body ≡ reply.body
  pub tag : (fields : HeadFields) (number : ℕ) → reply ≡ sent_reply fields reply.body → IsFramedBy fields reply.body → fields.tag ≡ Some number → response.tag ≡ Some (decimal number)

-- ---- the feed

-- the replica of an outcome
abbrev replica_in : Result (ReplayAnswer × ReplicaContents) ReplayFault → ReplicaContents
replica_in (Ok x) = x.1
replica_in (Err fault) = None

-- a diff document that is known makes of the replica what it is known to make
applied_as : (id : DocId) (body : List ℕ) (held held' next : ReplicaContents) (answer : ReplayAnswer) (notice : Tree) (stated : Applied) → UpdatesReplica id body held answer next → NoticeAnswer body (Ok notice)
    → IsReplayOutcome (is_name_of id) notice held (Ok (answer_view stated, held')) → held' ≡ next
applied_as id body held held' next answer notice stated u is replays =
    let text : is.text ≡ Ok u.notice = one_text 67 [] body is.text (Ok u.notice) is.by_grammar u.is_read in
    let read : ◌≡◌ {A = Result Tree NoticeFault} (Ok notice) (Ok u.notice) = is.is_told ∙ ap notice_or_fault text ∙ cond-true (is_notice u.notice) (Ok u.notice) _ u.form in
    let same : notice ≡ u.notice = cc in
    let here : IsReplayOutcome (is_name_of id) u.notice held (Ok (answer_view stated, held')) = subst (λ (t : Tree). IsReplayOutcome (is_name_of id) t held (Ok (answer_view stated, held'))) same replays in
    let one = one_outcome (is_name_of id) u.notice held (Ok (answer_view stated, held')) (Ok (answer, next)) u.proper here u.is_applied in
    ap replica_in one

-- the faults of a feed give no outcome
pub no_outcome : (b : Bool) (fault : FollowerFault) (round : Round) → ◌≡◌ {A = Result (Option Round) FollowerFault} (Ok (Some round)) (if b then Ok None else Err fault) → ⊥
no_outcome true fault round e = cc
no_outcome false fault round e = cc

module _ (root : List ℕ) (n : State) (id : DocId) (tag : ℕ) (body : List ℕ) (held held' : ReplicaContents) (round : Round) (next : ReplicaContents) (answer : ReplayAnswer) (u : UpdatesReplica id body held answer next) where
  by_applied : (notice : Tree) (applied : Result Applied (ReadError ApplyFault)) → NoticeAnswer body (Ok notice) → IsApplyAnswer (is_name_of id) notice held applied held' → Ok (Some round) ≡ round_outcome applied → held' ≡ next
  by_applied notice (Ok stated) read is told = applied_as id body held held' next answer notice stated u read is
  by_applied notice (Err error) read is told = let never : ⊥ = cc in absurd never

  by_notice : TakesNotice id body held held' (Ok (Some round)) → held' ≡ next
  by_notice (applies notice applied read is told) = by_applied notice applied read is told
  by_notice (is_none fault read same told) = let never : ⊥ = cc in absurd never
  by_notice (reads_none same told) = let never : ⊥ = cc in absurd never

module _ (root : List ℕ) (c : StoreContents) (request : Request) (a : Answer) (mode : Mode) (tag : ℕ) (id : DocId) (well : is_success a.reply.status ≡ true) where
  no_success : (status : ℕ) → a.reply.status ≡ status → is_success status ≡ false → a.reply.status ≡ 200
  no_success status is fails = let never : true ≡ false = sym well ∙ ap is_success is ∙ fails in absurd cc

  feed_read : (s : ChangesSince) → a ≡ changes_since_answer root (feed_query mode tag id) s (read_request Get request) → a.reply.status ≡ 200
  feed_read Gone is = ap (λ (x : Answer). x.reply.status) is
  feed_read Unknown is = no_success 410 (ap (λ (x : Answer). x.reply.status) is) refl
  feed_read (ReportedChanges ns) is = ap (λ (x : Answer). x.reply.status) is

  feed_target : AnswersByTarget (server_state root c) (Feed mode tag id) Get request a → a.reply.status ≡ 200
  feed_target is =
      either (is_allowed false (auid_of (Feed mode tag id)) (home_of (Feed mode tag id)) request.fields) (AnswersByMethod (server_state root c) (Feed mode tag id) Get request a) (a ≡ reply_only (plain_reply 403 request.closes))
      (λ _ reads. feed_read (since c id tag) reads) (λ _ s. no_success 403 (ap (λ (x : Answer). x.reply.status) s) refl) is

  -- a feed that is answered well is answered with 200
  feed_status : IsAnswer root c request a → IsTargetResult root request.target (Ok (Feed mode tag id)) → method_of request.method ≡ Get → a.reply.status ≡ 200
  feed_status is target method =
      let same : is.0 ≡ Ok (Feed mode tag id) = one_target root request.target is.0 (Ok (Feed mode tag id)) is.1 target in
      let here : IsAnswerByTarget root c (Ok (Feed mode tag id)) request a = subst (λ (read : Result Target UriFault). IsAnswerByTarget root c read request a) same is.2 in
      feed_target (subst (λ (x : Method). AnswersByTarget (server_state root c) (Feed mode tag id) x request a) method here)

module _ (root : List ℕ) (is_root : IsRoot root (authority_of root) (path_of root)) (n : State) (id : DocId) (request : Request) (reply : SentReply) (follows : ValidStep root n request reply n None) (method : method_of request.method ≡ Get) (response : Response) (received : IsReceivedAs reply response) where
  module _ (m : State) (v : Version) (kept : IsValidState m) (way : ReachesByValidSteps root m n) (has : HasVersion m id v) (target : IsTargetResult root request.target (Ok (Feed Aggregate v.tag id))) where
    told : UpdatesSubscriber n Aggregate v.tag id reply
    told = holds root is_root (contents_of n) n request (reply_only reply) follows.0 refl follows.1.answers Aggregate v.tag id target method

    updates_by : reply.status ≡ 200 → (o : Option Document) → find_document document_id n.documents id ≡ o → (answer : ReplayAnswer) × UpdatesReplica id reply.body (replica_of_version v) answer (replica_of o)
    updates_by ok None gone = (Removed, (subst (UpdatesReplicaIfStored Aggregate v.tag id reply.body) gone (told.updates ok)) v.tree)
    updates_by ok (Some d) here =
        let u : UpdatesReplicaFrom Aggregate v.tag id reply.body d = subst (UpdatesReplicaIfStored Aggregate v.tag id reply.body) here (told.updates ok) in
        let same : u.from ≡ v = one_of_a_tag root m n id v u.from kept way has (record { document = d; there = here; number = u.number; is_version = u.is_version }) u.same_tag in
        (patch_answer_between v d.now, subst (λ (x : Version). UpdatesReplica id reply.body (replica_of_version x) (patch_answer_between x d.now) (replica_of_version d.now)) same u.updates)

    pub feed_leads : (given : Result Response ClientFault) → JudgesResponse response given → (held' : ReplicaContents) (round : Round) → TakesFeed id given (replica_of_version v) held' (Ok (Some round)) → IsCurrentReplica n id held'
    feed_leads (Ok r) (succeeds well is) held' round takes =
        let same : r ≡ response = cc in
        let ok : reply.status ≡ 200 = feed_status root (contents_of n) request (reply_only reply) Aggregate v.tag id (ap is_success (sym received.status) ∙ well) follows.1.answers target method in
        let u = updates_by ok (find_document document_id n.documents id) refl in
        by_notice root n id v.tag reply.body (replica_of_version v) held' round (replica_of (find_document document_id n.documents id)) u.0 u.1
        (subst (λ (b : List ℕ). TakesNotice id b (replica_of_version v) held' (Ok (Some round))) (ap (λ (x : Response). x.body) same ∙ received.body) takes)
    feed_leads (Ok r) (refuses name fails names is) held' round takes = let never : ⊥ = cc in absurd never
    feed_leads (Ok r) (lacks_memory fails is) held' round takes = let never : ⊥ = cc in absurd never
    feed_leads (Err fault) judges held' round takes = absurd (no_outcome (is_refused_with 410 fault) (fault_of_client fault) round takes.1)

-- ---- the document

-- what the reply to a GET of the document says of it
data Seen (c : StoreContents) (id : DocId) (a : Answer) : Type 0 where
  sees : a.reply.status ≡ 200 → Seen c id a
  misses : find_document stored_id c.documents id ≡ None → a.reply.status ≡ 404 → Seen c id a
  other : is_success a.reply.status ≡ false → (a.reply.status == 404) ≡ false → Seen c id a

same_status : (x y : SentReply) → Some x ≡ Some y → x.status ≡ y.status
same_status x y is = let same : x ≡ y = cc in ap (λ (z : SentReply). z.status) same

module _ (c : StoreContents) (id : DocId) (request : Request) (a : Answer) where
  other_as : (status : ℕ) → a.reply.status ≡ status → is_success status ≡ false → (status == 404) ≡ false → Seen c id a
  other_as status is fails none = other (ap is_success is ∙ fails) (ap (λ (k : ℕ). k == 404) is ∙ none)

  stopped_as : (reply : SentReply) → a ≡ reply_only reply → (status : ℕ) → reply.status ≡ status → is_success status ≡ false → (status == 404) ≡ false → Seen c id a
  stopped_as reply is status stopped fails none = other_as status (ap (λ (x : Answer). x.reply.status) is ∙ stopped) fails none

  unstopped : (h : StoredDocument) → (outcome : Outcome) (stop : Option SentReply) → stop ≡ outcome_reply outcome (Some h.tag) request.closes
      → AnswersUnlessStopped stop a (a ≡ reply_only (found_reply (Some h.tag) (document_media_type id.auid) (encode_utf8_all (document_print h.tree)) request.closes)) → Seen c id a
  unstopped h outcome None stopped is = sees (ap (λ (x : Answer). x.reply.status) is)
  unstopped h outcomes.Unreadable (Some reply) stopped is = stopped_as reply is 400 (let same : reply ≡ plain_reply 400 request.closes = cc in ap (λ (x : SentReply). x.status) same) refl refl
  unstopped h outcomes.Go (Some reply) stopped is = absurd cc
  unstopped h outcomes.NotModified (Some reply) stopped is = stopped_as reply is 304 (same_status reply _ stopped) refl refl
  unstopped h outcomes.Failed (Some reply) stopped is = stopped_as reply is 412 (let same : reply ≡ plain_reply 412 request.closes = cc in ap (λ (x : SentReply). x.status) same) refl refl

  by_held : (o : Option StoredDocument) → find_document stored_id c.documents id ≡ o → (r : Resource) → r ≡ option_map_or (λ held. there held.0 held.1) (option_map {U = Tree × ℕ} (λ (h : StoredDocument). (h.tree, h.tag)) o) absent
      → SendsDocument r (document_media_type id.auid) (read_request Get request) a → Seen c id a
  by_held None held r leads sends =
      let is : a ≡ reply_only (plain_reply 404 request.closes) = subst (λ (x : Resource). SendsDocument x (document_media_type id.auid) (read_request Get request) a) leads sends in
      misses held (ap (λ (x : Answer). x.reply.status) is)
  by_held (Some h) held r leads sends =
      let is = subst (λ (x : Resource). SendsDocument x (document_media_type id.auid) (read_request Get request) a) leads sends in
      unstopped h is.1.0 is.0 is.1.2 is.2

  by_home : (home : Home) → IsUserHome home → (r : Resource) → IsResourceInHome c id home r → SendsDocument r (document_media_type id.auid) (read_request Get request) a → Seen c id a
  by_home Global user r leads sends = absurd user
  by_home (User xui) user r leads sends = by_held (find_document stored_id c.documents id) refl r leads sends

  by_target : (root : List ℕ) → IsUserHome id.home → AnswersByTarget (server_state root c) (a_document id) Get request a → Seen c id a
  by_target root user is =
      either (is_allowed false (auid_of (a_document id)) (home_of (a_document id)) request.fields) (AnswersByMethod (server_state root c) (a_document id) Get request a) (a ≡ reply_only (plain_reply 403 request.closes))
      (λ _ reads. by_home id.home user reads.0 reads.1 reads.2) (λ _ s. other_as 403 (ap (λ (x : Answer). x.reply.status) s) refl refl) is

  seen_by : (root : List ℕ) → IsAnswer root c request a → IsTargetResult root request.target (Ok (a_document id)) → IsUserHome id.home → method_of request.method ≡ Get → Seen c id a
  seen_by root is target user method =
      let same : is.0 ≡ Ok (a_document id) = one_target root request.target is.0 (Ok (a_document id)) is.1 target in
      let here : IsAnswerByTarget root c (Ok (a_document id)) request a = subst (λ (read : Result Target UriFault). IsAnswerByTarget root c read request a) same is.2 in
      by_target root user (subst (λ (x : Method). AnswersByTarget (server_state root c) (a_document id) x request a) method here)

-- a fault of which a replica was made empty is a 404
pub emptied : (b : Bool) (fault : FollowerFault) (fetched : Option ReplicaVersion) → Ok fetched ≡ (if b then Ok None else Err fault) → (b ≡ true) × (fetched ≡ None)
emptied true fault fetched is = (refl, cc)
emptied false fault fetched is = let never : ⊥ = cc in absurd never

no_document : (n : State) (id : DocId) → find_document stored_id (contents_of n).documents id ≡ None → find_document document_id n.documents id ≡ None
no_document n id none = by (find_document document_id n.documents id) (sym (held_there n.documents id) ∙ none)
  where
    by : (o : Option Document) → option_map stored_document o ≡ None → o ≡ None
    by None is = refl
    by (Some d) is = let never : ⊥ = cc in absurd never

module _ (root : List ℕ) (n : State) (id : DocId) (request : Request) (reply : SentReply) (follows : ValidStep root n request reply n None) (method : method_of request.method ≡ Get) (response : Response) (received : IsReceivedAs reply response)
    (target : IsTargetResult root request.target (Ok (a_document id))) (user : IsUserHome id.home) where
  seen : Seen (contents_of n) id (reply_only reply)
  seen = seen_by (contents_of n) id request (reply_only reply) root follows.1.answers target user method

  -- the version that a response brings
  brought : (tag : List ℕ) (tree : Tree) → response.tag ≡ Some tag → IsTextResult MAX_LEVELS [] response.body (Ok tree) → reply.status ≡ 200 → IsCurrentReplica n id (Some (tag, tree))
  brought tag tree tagged text ok =
      let s = fetched_version root (contents_of n) n request (reply_only reply) id follows.0 refl follows.1.answers target user method ok in
      let number : response.tag ≡ Some (decimal s.document.now.tag) =
      received.tag (record { status = 200; tag = Some s.document.now.tag; read_only = None; media = Some (document_media_type id.auid); size = length reply.body; closes = reply.closes }) s.document.now.tag s.tagged (record { lawful = refl; size = refl; bodiless = λ e. let never : ⊥ = cc in absurd never }) refl in
      let same_tag : tag ≡ decimal s.document.now.tag = cc in
      let here : IsTextResult MAX_LEVELS [] reply.body (Ok tree) = subst (λ (b : List ℕ). IsTextResult MAX_LEVELS [] b (Ok tree)) received.body text in
      let read : Ok tree ≡ Ok s.document.now.tree = one_text 64 [] reply.body (Ok tree) (Ok s.document.now.tree) here s.text in
      let same_tree : tree ≡ s.document.now.tree = cc in
      (λ i. Some (same_tag i, same_tree i)) ∙ ap replica_of (sym s.there)

  by_version : (version : Result ReplicaVersion FollowerFault) → BringsVersion response version → reply.status ≡ 200 → (fetched : Option ReplicaVersion) → Ok fetched ≡ result_map_both (λ held. Some held) (λ fault. fault) version → IsCurrentReplica n id (replica_view fetched)
  by_version (Ok v) (spells_a_document tag tree tagged text is) ok fetched told =
      let made : v ≡ record { tag = tag; root = tree } = cc in
      let some : fetched ≡ Some v = cc in
      ap replica_view some ∙ ap (λ (x : ReplicaVersion). replica_view (Some x)) made ∙ brought tag tree tagged text ok
  by_version (Ok v) (has_no_tag none is) ok fetched told = let never : ⊥ = cc in absurd never
  by_version (Ok v) (spells_none tag fault tagged text is) ok fetched told = let never : ⊥ = cc in absurd never
  by_version (Ok v) (lacks_memory_too tag tagged is) ok fetched told = let never : ⊥ = cc in absurd never
  by_version (Err fault) brings ok fetched told = let never : ⊥ = cc in absurd never

  emptied_by : Seen (contents_of n) id (reply_only reply) → (fetched : Option ReplicaVersion) → fetched ≡ None → is_success response.status ≡ false → (response.status == 404) ≡ true → IsCurrentReplica n id (replica_view fetched)
  emptied_by (sees ok) fetched none fails is = let never : true ≡ false = sym (ap is_success (received.status ∙ ok)) ∙ fails in absurd cc
  emptied_by (misses gone missing) fetched none fails is = ap replica_view none ∙ ap replica_of (sym (no_document n id gone))
  emptied_by (other fails differs) fetched none fails' is = let never : true ≡ false = sym is ∙ ap (λ (k : ℕ). k == 404) received.status ∙ differs in absurd cc

  well_status : Seen (contents_of n) id (reply_only reply) → is_success response.status ≡ true → reply.status ≡ 200
  well_status (sees ok) well = ok
  well_status (misses gone missing) well = let never : true ≡ false = sym well ∙ ap is_success (received.status ∙ missing) in absurd cc
  well_status (other fails differs) well = let never : true ≡ false = sym well ∙ ap is_success received.status ∙ fails in absurd cc

  pub document_leads : (given : Result Response ClientFault) → JudgesResponse response given → (fetched : Option ReplicaVersion) → TakesDocument given (Ok fetched) → IsCurrentReplica n id (replica_view fetched)
  document_leads (Ok r) (succeeds well is) fetched (version, brings, told) =
      let same : r ≡ response = cc in
      by_version version (subst (λ (x : Response). BringsVersion x version) same brings) (well_status seen well) fetched told
  document_leads (Ok r) (refuses name fails names is) fetched takes = let never : ⊥ = cc in absurd never
  document_leads (Ok r) (lacks_memory fails is) fetched takes = let never : ⊥ = cc in absurd never
  document_leads (Err fault) (succeeds well is) fetched takes = let never : ⊥ = cc in absurd never
  document_leads (Err fault) (refuses name fails names is) fetched takes =
      let same : fault ≡ clients.Refused response.status name = cc in
      let gone = emptied (is_refused_with 404 fault) (fault_of_client fault) fetched takes in
      emptied_by seen fetched gone.1 fails (sym (ap (is_refused_with 404) same) ∙ gone.0)
  document_leads (Err fault) (lacks_memory fails is) fetched takes =
      let same : fault ≡ clients.NoMemory = cc in
      let gone = emptied (is_refused_with 404 fault) (fault_of_client fault) fetched takes in
      let never : false ≡ true = sym (ap (is_refused_with 404) same) ∙ gone.0 in
      absurd cc
