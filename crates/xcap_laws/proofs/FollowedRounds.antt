-- A round whose last connection the machine served leaves the follower with the present document.
use Rattle.std.proofs.Common.{◌≡◌, ◌⊎◌, inl, inr, ℕ, ◌≤◌, ◌<◌, zero, suc, Bool, true, false, List, [], ◌∷◌, ◌++◌, length, Option, None, Some, option_map, Result, Ok, Err, codes, decimal, slice_get, refl, sym, ap, ◌∙◌, subst, arith, append-nil, length-append}
use Rattle.std.specs.List.{AllByRecursion}
use Rattle.std.proofs.lemmas.Bool.{cases_lt}
use Rattle.std.specs.Str.{chars}
use Rattle.xml_names.specs.Limits.{u64_max}
use Rattle.xml_tree.specs.Tree.{Tree}
use Rattle.doc_names.specs.NameEquality.{same_id}
use Rattle.doc_names.specs.DocIds.{IsAddressable, id_text}
use Rattle.doc_names.specs.declared.doc_id.DocId.{DocId}
use Rattle.doc_names.specs.declared.doc_id.Home.{Home}
use Rattle.doc_names.specs.declared.doc_id.Home.TheVariants.{User}
use Rattle.http_wire.specs.declared.request.Request.{Request}
use Rattle.request_checks.specs.Methods.{method_of}
use Rattle.reply_text.specs.ReplyHeads.{HeadFields, SentReply, reply_bytes, sent_reply}
use Rattle.request_checks.specs.declared.method.Method.TheVariants.{Get, Head}
use Rattle.store_core.specs.Contents.{contents_of}
use Rattle.store_core.specs.State.{Document, State, Version, versions}
use Rattle.store_core.specs.ValidStates.{IsValidHistory, IsUserHome, IsValidState}
use Rattle.patch_rules.specs.Replay.{ReplicaContents}
use Rattle.patch_apply.specs.Views.{replica_view}
use Rattle.patch_apply.specs.declared.replica.ReplicaVersion.{ReplicaVersion}
use Rattle.xcap_io.specs.StreamStates.{StreamState}
use Rattle.xcap_io.specs.Connections.{peer_traffic}
use Rattle.xcap_io.specs.ConnectionHistories.{Traffic}
use Rattle.xcap_uri.specs.Roots.{IsRoot, authority_of, path_of, slash}
use Rattle.xcap_uri.specs.Targets.{IsTargetResult}
use Rattle.xcap_uri.specs.Shapes.{parse_tag}
use Rattle.xcap_uri.specs.declared.target.Mode.{Mode}
use Rattle.xcap_uri.specs.declared.target.Mode.TheVariants.{Aggregate}
use Rattle.xcap_uri.specs.declared.target.Target.TheVariants.{Feed}
use Rattle.xcap_uri.specs.declared.target.Target.TheVariants.{Document as a_document}
use Rattle.xcap_client.specs.Asks.{get_ask}
use Rattle.xcap_client.specs.Calls.{MakesCall, JudgesResponse, JudgesExchange}
use Rattle.xcap_client.specs.Connections.{ConnectsOnce, none_began, broke_off, responded}
use Rattle.xcap_client.specs.Exchanges.{exchange_result, exchange_fault}
use Rattle.xcap_client.specs.ParsedRequests.{request_of_ask}
use Rattle.xcap_client.specs.Responses.{DecidesNothing, IsDecidedResponse, IsResponseOf}
use Rattle.xcap_client.specs.ReadFaults.{HoldsByCause}
use Rattle.xcap_client.specs.declared.body_length.TheConstants.{MAX_RESPONSE_BODY_BYTES}
use Rattle.xcap_client.specs.declared.client_fault.ClientFault.{ClientFault}
use Rattle.xcap_client.specs.declared.client_fault.ClientFault.TheVariants as clients
use Rattle.xcap_client.specs.declared.request.Ask.{Ask}
use Rattle.xcap_client.specs.declared.response.Response.{Response}
use Rattle.xcap_client.specs.declared.response_fault.ResponseFault.{ResponseFault}
use Rattle.xcap_client.specs.declared.response_fault.ResponseFault.TheVariants as faults
use Rattle.xcap_client.proofs.CallTraffic.{connects_once}
use Rattle.xcap_client.proofs.OneMeaning.{one_meaning}
use Rattle.client_follower.specs.FetchedDocuments.{FetchesDocument, TakesDocument, is_refused_with}
use Rattle.client_follower.specs.FollowerFaults.{fault_of_client}
use Rattle.client_follower.specs.FeedResults.{TakesFeed}
use Rattle.client_follower.specs.FeedPaths.{feed_path}
use Rattle.client_follower.specs.Rounds.{AsksFeed, HoldsFetchedVersion, RefetchesDocument, RunsRound, holds_nothing, asks, by_feed, by_document, failed}
use Rattle.client_follower.specs.FollowerStates.{FollowerState}
use Rattle.client_follower.specs.declared.follower_fault.FollowerFault.{FollowerFault}
use Rattle.client_follower.specs.declared.feed_rounds.Round.{Round}
use Rattle.client_theorem.specs.FeedRequests.{AsksForFeed, HasFeed, feed_address, feed_request}
use Rattle.xcap_machine.specs.Answers.{reply_only}
use Rattle.xcap_machine.specs.Machine.{ValidStep}
use Rattle.xcap_machine.specs.SubscriberReplicas.{replica_of_version}
use Rattle.xcap_machine.specs.ReachedStates.{ReachesByValidSteps, HasVersion}
use Rattle.xcap_machine.proofs.OneVersion.{found_all}
use Rattle.xcap_laws.specs.Followers.{HoldsVersion, IsAnsweredInState, IsCurrentReplica, IsServedInState}
use Rattle.xcap_laws.proofs.FollowedAddresses.{document_asked, feed_asked}
use Rattle.xcap_laws.specs.ReadReplies.{IsCompleteReply, answer as of_the_machine, response_of_reply}
use Rattle.xcap_laws.proofs.Followers.{IsReceivedAs, document_leads, emptied, feed_leads, no_outcome}
use Rattle.xcap_laws.proofs.ReplyKinds.{framed_reply, is_refused}
use Rattle.xcap_laws.proofs.ReplyReadings.{IsFramedBy, says_back}

-- ---- the last connection

last_alike : {A : Type 0} (xs ys : List A) (x y : A) → xs ++ x ∷ [] ≡ ys ++ y ∷ [] → x ≡ y
last_alike [] [] x y e = cc
last_alike [] (b ∷ ys) x y e = absurd (omega (arith, ap length e, length-append ys (y ∷ [])))
last_alike (a ∷ xs) [] x y e = absurd (omega (arith, ap length e, length-append xs (x ∷ [])))
last_alike (a ∷ xs) (b ∷ ys) x y e = let tail : xs ++ x ∷ [] ≡ ys ++ y ∷ [] = cc in last_alike xs ys x y tail

said : (given : List ℕ) (ended : Bool) (answer : Result Response ResponseFault) → IsDecidedResponse given ended answer → IsResponseOf given answer
said given ended answer (inl always) = subst (λ (b : List ℕ). IsResponseOf b answer) (append-nil given) (always [])
said given ended answer (inr here) = here.1

-- a client that read a response on a connection whose bytes begin with the machine's reply received that reply
module _ (root : List ℕ) (n : State) (ask : Ask) (get : method_of (request_of_ask root ask).method ≡ Get) (given : List ℕ) (a : IsAnsweredInState root n ask given) (r : Response) (says : IsResponseOf given (Ok r)) where
  whole : IsCompleteReply a.reply
  whole = of_the_machine root (contents_of n) (request_of_ask root ask) (reply_only a.reply) a.answers.1.answers (λ head. let never : Get ≡ Head = sym get ∙ head in cc) refl

  is_read : IsResponseOf (reply_bytes a.reply ++ a.more) (Ok r)
  is_read = subst (λ (b : List ℕ). IsResponseOf b (Ok r)) a.begins says

  -- a body beyond the client's limit would have been refused
  short : length a.reply.body ≤ MAX_RESPONSE_BODY_BYTES
  short = elim (cases_lt MAX_RESPONSE_BODY_BYTES (length a.reply.body)) [
    | inl long ↦ (let never : ◌≡◌ {A = Result Response ResponseFault} (Err (faults.TooLong (length a.reply.body))) (Ok r) = one_meaning (reply_bytes a.reply ++ a.more) (Err (faults.TooLong (length a.reply.body))) (Ok r) (is_refused a.reply a.more (record { whole = whole; countable = a.countable }) long) is_read in cc)
    | inr within ↦ within
  ]

  read_as : (fields : HeadFields) → a.reply ≡ sent_reply fields a.reply.body → IsFramedBy fields a.reply.body → r ≡ response_of_reply a.reply fields.tag
  read_as fields is framed =
      let here = subst (λ (x : SentReply). IsResponseOf (reply_bytes x ++ a.more) (Ok (response_of_reply x fields.tag))) (sym is) (says_back fields a.reply.body a.more framed short) in
      let same : ◌≡◌ {A = Result Response ResponseFault} (Ok r) (Ok (response_of_reply a.reply fields.tag)) = one_meaning (reply_bytes a.reply ++ a.more) (Ok r) (Ok (response_of_reply a.reply fields.tag)) is_read here in
      cc

  received : IsReceivedAs a.reply r
  received =
      let f = framed_reply a.reply whole in
      let body : f.body ≡ a.reply.body = ap (λ (x : SentReply). x.body) (sym f.is_sent) in
      let is = read_as f.fields (f.is_sent ∙ ap (sent_reply f.fields) body) (subst (IsFramedBy f.fields) body f.framed) in
      record {
        status = ap (λ (x : Response). x.status) is;
        body = ap (λ (x : Response). x.body) is;
        tag = λ fields number sends framed tagged. ap (λ (x : Response). x.tag) (read_as fields sends framed) ∙ ap (option_map decimal) tagged;
      }

-- a call over the last connection is judged by the machine's reply
record IsCalled (root : List ℕ) (n : State) (ask : Ask) (given : Result Response ClientFault) : Type 0 where
  reply : SentReply
  answers : ValidStep root n (request_of_ask root ask) reply n None
  response : Response
  received_as : IsReceivedAs reply response
  judged : JudgesResponse response given

called : (root : List ℕ) (n : State) (ask : Ask) → method_of (request_of_ask root ask).method ≡ Get → (old new : StreamState) (given : Result Response ClientFault) (earlier : List Traffic) (last : Traffic) → MakesCall root ask old new given → peer_traffic new ≡ earlier ++ last ∷ []
    → IsServedInState root n last → (given ≡ Err clients.NoMemory → ⊥) → (given ≡ Err clients.PeerFault → ⊥) → ((fault : ResponseFault) → given ≡ Err (clients.BadResponse fault) → ⊥) → IsCalled root n ask given
called root n ask get old new given earlier last call ends served memory peer broken = by (connects_once root ask old new given call)
  where
    no_fault : (fault : ResponseFault) → given ≡ Err (exchange_fault fault) → ⊥
    no_fault faults.ReadFailed e = peer e
    no_fault faults.NoMemory e = memory e
    no_fault faults.Head e = broken faults.Head e
    no_fault faults.Coding e = broken faults.Coding e
    no_fault faults.Length e = broken faults.Length e
    no_fault (faults.TooLong k) e = broken (faults.TooLong k) e
    no_fault (faults.Short k l) e = broken (faults.Short k l) e

    by_answer : (passed : Traffic) → IsAnsweredInState root n ask passed.given → (answer : Result Response ResponseFault) → HoldsByCause answer (DecidesNothing passed.given) (IsDecidedResponse passed.given passed.ended) → JudgesExchange (exchange_result answer) given → IsCalled root n ask given
    by_answer passed a (Ok r) cause judged = record {
      reply = a.reply;
      answers = a.answers;
      response = r;
      received_as = received root n ask get passed.given a r (said passed.given passed.ended (Ok r) cause);
      judged = judged;
    }
    by_answer passed a (Err fault) cause judged = absurd (no_fault fault judged)

    by : ConnectsOnce root ask old new given → IsCalled root n ask given
    by (none_began none (inl e)) = absurd (memory e)
    by (none_began none (inr e)) = absurd (peer e)
    by (broke_off passed began prefix e) = absurd (peer e)
    by (responded passed answer began taken cause judged) =
        let same : last ≡ passed = last_alike earlier (peer_traffic old) last passed (sym ends ∙ began.behind) in
        by_answer passed (subst (λ (t : Traffic). IsServedInState root n t) same served ask taken) answer cause judged

-- ---- tags

some_tag : (next : ℕ) (vs : List Version) (k : ℕ) (v : Version) → AllByRecursion (λ x. (1 ≤ x.tag) × (x.tag < next)) vs → slice_get vs k ≡ Some v → 1 ≤ v.tag
some_tag next [] k v h is = absurd cc
some_tag next (x ∷ vs) zero v h is = let same : x ≡ v = cc in subst (λ (y : Version). 1 ≤ y.tag) same h.0.0
some_tag next (x ∷ vs) (suc k) v h is = some_tag next vs k v h.1 is

has_tag : (m : State) (id : DocId) (v : Version) → IsValidState m → HasVersion m id v → 1 ≤ v.tag
has_tag m id v kept h =
    let d : IsValidHistory m.next h.document = found_all (IsValidHistory m.next) (λ x. same_id id x.id) m.documents h.document kept.documents h.there in
    some_tag m.next (versions h.document) h.number v d.tags h.is_version

-- the tag of a replica
abbrev tag_in : ReplicaContents → List ℕ
tag_in None = []
tag_in (Some x) = x.0

-- ---- the round

reads : method_of (codes "GET") ≡ Get
unfolding method_of chars
reads = refl

is_users : (doc : DocId) (has : HasFeed doc) → IsUserHome doc.home
is_users doc has = subst (λ (h : Home). IsUserHome h) (sym has.users) tt

module _ (f f' : FollowerState) (n : State) (is : IsRoot f.root (authority_of f.root) (path_of f.root)) (has : HasFeed f.doc) (below : IsTargetResult f.root (path_of f.root ++ (slash ∷ id_text f.doc)) (Ok (a_document f.doc)))
    (feeds : (number : ℕ) → parse_tag (decimal number) ≡ Some number → IsTargetResult f.root (feed_address f.root Aggregate (decimal number) f.doc) (Ok (Feed Aggregate number f.doc))) (earlier : List Traffic) (last : Traffic) (served : IsServedInState f.root n last) where
  by_feed_call : (m : State) (v : Version) → IsValidState m → ReachesByValidSteps f.root m n → HasVersion m f.doc v → v.tag ≤ u64_max → (old new : StreamState) (given : Result Response ClientFault) (round : Round)
      → MakesCall f.root (get_ask f.user (feed_path (decimal v.tag) f.doc)) old new given → peer_traffic new ≡ earlier ++ last ∷ [] → TakesFeed f.doc given (replica_of_version v) f'.held (Ok (Some round)) → IsCurrentReplica n f.doc f'.held
  by_feed_call m v kept way there small old new given round call ends takes =
      let ask = get_ask f.user (feed_path (decimal v.tag) f.doc) in
      let c = called f.root n ask reads old new given earlier last call ends served (λ e. no_fault clients.NoMemory e) (λ e. no_fault clients.PeerFault e) (λ fault e. no_fault (clients.BadResponse fault) e) in
      feed_leads f.root is n f.doc (request_of_ask f.root ask) c.reply c.answers reads c.response c.received_as m v kept way there
      (feed_asked f.root is v.tag f.doc (has_tag m f.doc v kept there) small f.user (feeds v.tag)) given c.judged f'.held round takes
    where
      no_fault : (fault : ClientFault) → given ≡ Err fault → ⊥
      no_fault fault e = no_outcome (is_refused_with 410 fault) (fault_of_client fault) round (subst (λ (g : Result Response ClientFault). TakesFeed f.doc g (replica_of_version v) f'.held (Ok (Some round))) e takes).1

  fed : (old new : StreamState) (round : Round) → HoldsVersion f.root n f.doc f.held → AsksFeed f f' old new (Ok (Some round)) → peer_traffic new ≡ earlier ++ last ∷ [] → IsCurrentReplica n f.doc f'.held
  fed old new round holds (holds_nothing none same stays e) ends = let never : ⊥ = cc in absurd never
  fed old new round (inl none) (asks tag tree given held call takes stays) ends = let never : ◌≡◌ {A = ReplicaContents} None (Some (tag, tree)) = sym none ∙ held in let none_so : ⊥ = cc in absurd none_so
  fed old new round (inr (m, v, kept, way, there, small, is_held)) (asks tag tree given held call takes stays) ends =
      let same : ◌≡◌ {A = ReplicaContents} (Some (tag, tree)) (Some (decimal v.tag, v.tree)) = sym held ∙ is_held in
      let tag_is : tag ≡ decimal v.tag = ap tag_in same in
      by_feed_call m v kept way there small old new given round (subst (λ (t : List ℕ). MakesCall f.root (get_ask f.user (feed_path t f.doc)) old new given) tag_is call) ends
      (subst (λ (h : ReplicaContents). TakesFeed f.doc given h f'.held (Ok (Some round))) is_held takes)

  by_document_call : (old new : StreamState) (given : Result Response ClientFault) (fetched : Option ReplicaVersion) → MakesCall f.root (get_ask f.user (id_text f.doc)) old new given → peer_traffic new ≡ earlier ++ last ∷ []
      → TakesDocument given (Ok fetched) → IsCurrentReplica n f.doc (replica_view fetched)
  by_document_call old new given fetched call ends takes =
      let ask = get_ask f.user (id_text f.doc) in
      let c = called f.root n ask reads old new given earlier last call ends served (λ e. no_fault clients.NoMemory refl e) (λ e. no_fault clients.PeerFault refl e) (λ fault e. no_fault (clients.BadResponse fault) refl e) in
      document_leads f.root n f.doc (request_of_ask f.root ask) c.reply c.answers reads c.response c.received_as (document_asked f.root is f.user f.doc below) (is_users f.doc has) given c.judged fetched takes
    where
      no_fault : (fault : ClientFault) → is_refused_with 404 fault ≡ false → given ≡ Err fault → ⊥
      no_fault fault differs e =
          let gone = emptied (is_refused_with 404 fault) (fault_of_client fault) fetched (subst (λ (g : Result Response ClientFault). TakesDocument g (Ok fetched)) e takes) in
          let never : true ≡ false = sym gone.0 ∙ differs in
          cc

  fetched_so : (fetched : Result (Option ReplicaVersion) FollowerFault) (round : Round) → HoldsFetchedVersion f f' fetched (Ok round) → ((held : Option ReplicaVersion) → fetched ≡ Ok held → IsCurrentReplica n f.doc (replica_view held)) → IsCurrentReplica n f.doc f'.held
  fetched_so (Ok (Some held)) round (is_now, e) present = ap (λ (x : FollowerState). x.held) is_now ∙ present (Some held) refl
  fetched_so (Ok None) round (is_now, e) present = ap (λ (x : FollowerState). x.held) is_now ∙ present None refl
  fetched_so (Err fault) round (is_now, e) present = let never : ⊥ = cc in absurd never

  rounds : (old new : StreamState) (round : Round) → HoldsVersion f.root n f.doc f.held → RunsRound f f' old new (Ok round) → peer_traffic new ≡ earlier ++ last ∷ [] → IsCurrentReplica n f.doc f'.held
  rounds old new round holds (by_feed other feed e) ends = fed old new other holds feed ends
  rounds old new round holds (by_document between feed fetch) ends =
      fetched_so fetch.fetched round fetch.holds
      (λ held e. by_document_call between new fetch.fetches.given held fetch.fetches.calls ends (subst (λ (r : Result (Option ReplicaVersion) FollowerFault). TakesDocument fetch.fetches.given r) e fetch.fetches.takes))
  rounds old new round holds (failed fault feed stays e) ends = let never : ⊥ = cc in absurd never

pub converges : (root : List ℕ) (doc : DocId) → IsRoot root (authority_of root) (path_of root) → (IsAddressable doc → IsTargetResult root (path_of root ++ (slash ∷ id_text doc)) (Ok (a_document doc)))
    → ((mode : Mode) (tag : List ℕ) (number : ℕ) → HasFeed doc → parse_tag tag ≡ Some number → AsksForFeed root mode number doc (feed_request root mode tag doc))
    → (n : State) (f f' : FollowerState) (old new : StreamState) (round : Round) (earlier : List Traffic) (last : Traffic) → f.root ≡ root → f.doc ≡ doc → HasFeed doc → HoldsVersion f.root n f.doc f.held
    → RunsRound f f' old new (Ok round) → peer_traffic new ≡ earlier ++ last ∷ [] → IsServedInState f.root n last → IsCurrentReplica n f.doc f'.held
converges root doc is below asks_feed n f f' old new round earlier last same_root same_doc has holds made ends served =
    let has' : HasFeed f.doc = subst (λ (d : DocId). HasFeed d) (sym same_doc) has in
    let is' : IsRoot f.root (authority_of f.root) (path_of f.root) = subst (λ (r : List ℕ). IsRoot r (authority_of r) (path_of r)) (sym same_root) is in
    let below' : IsTargetResult f.root (path_of f.root ++ (slash ∷ id_text f.doc)) (Ok (a_document f.doc)) =
    subst (λ (r : List ℕ). IsTargetResult r (path_of r ++ (slash ∷ id_text f.doc)) (Ok (a_document f.doc))) (sym same_root) (subst (λ (d : DocId). IsTargetResult root (path_of root ++ (slash ∷ id_text d)) (Ok (a_document d))) (sym same_doc) (below has.readable)) in
    rounds f f' n is' has' below'
    (λ number spelled.
    subst (λ (r : List ℕ). IsTargetResult r (feed_address r Aggregate (decimal number) f.doc) (Ok (Feed Aggregate number f.doc))) (sym same_root)
    (subst (λ (d : DocId). IsTargetResult root (feed_address root Aggregate (decimal number) d) (Ok (Feed Aggregate number d))) (sym same_doc) (asks_feed Aggregate (decimal number) number has spelled).target))
    earlier last served old new round holds made ends
