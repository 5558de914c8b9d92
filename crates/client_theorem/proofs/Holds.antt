-- A subscriber that follows a document from a version that is retained has the document's current
-- version.
use Rattle.std.proofs.Common.{◌≡◌, ◌≢◌, ◌≤◌, ◌<◌, ◌+◌, ◌==◌, ℕ, zero, suc, true, false, List, [], ◌∷◌, None, Some, is_some, option_map, Result, decimal, slice_get, inl, inr, refl, sym, ap, ◌∙◌, subst, arith}
use Rattle.std.proofs.lemmas.Bool.{eq-eqb}
use Rattle.std.proofs.lemmas.Fmt.{IsAscii-decimal}
use Rattle.std.proofs.lemmas.Str.{encodes-IsAscii}
use Rattle.std.specs.List.{AllByRecursion}
use Rattle.xml_names.specs.Limits.{u64_max}
use Rattle.xml_tree.specs.Tree.{Tree}
use Rattle.doc_names.specs.NameEquality.{same_id}
use Rattle.doc_names.specs.declared.doc_id.DocId.{DocId}
use Rattle.xcap_uri.specs.Numerals.{numeral_of}
use Rattle.xcap_uri.specs.Shapes.{parse_tag}
use Rattle.xcap_uri.specs.declared.target.Mode.{Mode}
use Rattle.xcap_uri.specs.declared.target.Mode.TheVariants.{NoPatching, XcapPatching, Aggregate}
use Rattle.reply_text.specs.ReplyHeads.{SentReply}
use Rattle.http_wire.specs.declared.request.Request.{Request}
use Rattle.store_core.specs.DocumentChanges.{find_document, document_id, stored_id}
use Rattle.store_core.specs.Contents.{Represents, StoreContents, stored_document, contents_of}
use Rattle.store_core.specs.ValidStates.{IsValidHistory, IsValidState}
use Rattle.store_core.specs.Since.{Gone, Unknown, since}
use Rattle.store_core.specs.inner.ChangesSince.{stored_changes_since}
use Rattle.store_core.specs.State.{Document, State, Version, versions}
use Rattle.xcap_machine.proofs.Cases.{either}
use Rattle.xcap_machine.specs.Answers.{reply_only}
use Rattle.xcap_machine.specs.Requests.{IsAnswer}
use Rattle.patch_rules.specs.Replay.{ReplayAnswer, ReplicaContents, Removed}
use Rattle.patch_apply.specs.DiffTexts.{NoticeAnswer}
use Rattle.patch_apply.specs.declared.fault.NoticeFault.{NoticeFault}
use Rattle.xcap_machine.proofs.OneVersion.{found_all, held_there}
use Rattle.xcap_machine.specs.SubscriberReplicas.{patch_answer_between, replica_of_version}
use Rattle.xcap_machine.specs.SubscriberVersions.{UpdatesSubscriber, UpdatesAllSubscribers, UpdatesReplica, UpdatesReplicaFrom, UpdatesReplicaIfStored, UpdatesReplicaBetween}
use Rattle.client_theorem.proofs.Numerals.{printed_numeral}
use Rattle.client_theorem.specs.FeedRequests.{AsksForFeed, feed_request}
use Rattle.client_theorem.proofs.Replies.{sends_a_notice}
use Rattle.client_theorem.proofs.NoticeResults.{updated}
use Rattle.client_theorem.specs.FollowResults.{FollowQuery, FollowOutcome, FollowsFeed, FollowsSinceTag, FollowsVersion, HoldsOrNoMemory, FailsWith, TakesNotice}
use Rattle.client_theorem.specs.SubscriberVersions.{DropsGoneDocument, GetsReplica, HoldsCurrentVersion, IsPatchingMode, IsRetainedVersion}
use Rattle.client_theorem.specs.declared.follow_fault.FollowFault.TheVariants.{BadTag, Status}

-- ---- tags

-- a printed tag is a numeral
spelled : (tag : ℕ) → 1 ≤ tag → tag ≤ u64_max → parse_tag (decimal tag) ≡ Some tag
spelled tag some small =
    ap numeral_of (encodes-IsAscii (decimal tag) (IsAscii-decimal tag (omega (arith, small)))) ∙ printed_numeral tag some small

tag_at : (next : ℕ) (vs : List Version) (k : ℕ) (v : Version) → AllByRecursion (λ x. (1 ≤ x.tag) × (x.tag < next)) vs → slice_get vs k ≡ Some v → (1 ≤ v.tag) × (v.tag < next)
tag_at next [] k v h is = absurd cc
tag_at next (x ∷ vs) zero v h is = let same : x ≡ v = cc in subst (λ (y : Version). (1 ≤ y.tag) × (y.tag < next)) same h.0
tag_at next (x ∷ vs) (suc k) v h is = tag_at next vs k v h.1 is

-- where the last number has 64 bits, so has each tag
small_tag : (m : State) (id : DocId) (d : Document) (from : Version) (last : ℕ) → IsValidState m → last + 1 ≡ m.next → last ≤ u64_max → IsRetainedVersion m id d from → (1 ≤ from.tag) × (from.tag ≤ u64_max)
small_tag m id d from last kept next small is =
    let of_document : IsValidHistory m.next d = found_all (IsValidHistory m.next) (λ x. same_id id x.id) m.documents d kept.documents is.there in
    let tag = tag_at m.next (versions d) is.number from of_document.tags is.is_version in
    (tag.0, omega (arith, tag.1, next, small))

-- ---- what was requested

-- the request for the feed since a tag
abbrev request_since : FollowQuery → List ℕ → Request
request_since query tag = feed_request query.root query.mode tag query.doc

module _ (query : FollowQuery) (m : State) (stands : Represents query.content m) (outcome : FollowOutcome)
    (asks : (tag : List ℕ) (n : ℕ) → parse_tag tag ≡ Some n → AsksForFeed query.root query.mode n query.doc (request_since query tag))
    (holds : (tag : List ℕ) (reply : SentReply) → IsAnswer query.root query.content (request_since query tag) (reply_only reply) → UpdatesAllSubscribers query.root m (request_since query tag) reply) where
  -- with a version whose tag is a numeral the machine was asked
  asked : (tag : ℕ) (tree : Tree) → 1 ≤ tag → tag ≤ u64_max → outcome.old ≡ Some (decimal tag, tree) → FollowsFeed query query.doc outcome → FollowsSinceTag query query.doc (decimal tag) outcome
  asked tag tree some small is follows =
      let held : FollowsVersion query query.doc outcome (Some (decimal tag, tree)) = subst (FollowsVersion query query.doc outcome) is follows in
      either (is_some (parse_tag (decimal tag))) (FollowsSinceTag query query.doc (decimal tag) outcome) (FailsWith BadTag outcome)
      (λ _ so. so) (λ no so. let never : true ≡ false = sym (ap is_some (spelled tag some small)) ∙ no in absurd cc) held

  -- and its reply carries a diff document of what the subscriber is to have
  pub told : (tag : ℕ) (tree : Tree) → 1 ≤ tag → tag ≤ u64_max → outcome.old ≡ Some (decimal tag, tree) → since query.content query.doc tag ≢ Unknown → FollowsFeed query query.doc outcome
      → (answer : ReplayAnswer) (then : ReplicaContents) → ((body : List ℕ) → UpdatesReplicaIfStored query.mode tag query.doc body (find_document document_id m.documents query.doc) → UpdatesReplica query.doc body outcome.old answer then) → GetsReplica answer then outcome
  told tag tree some small is known follows answer then updates =
      let from = asked tag tree some small is follows in
      let reply = from.0 in
      let is_tag = spelled tag some small in
      let request = asks (decimal tag) tag is_tag in
      let brings : UpdatesSubscriber m query.mode tag query.doc reply = holds (decimal tag) reply from.1 query.mode tag query.doc request.target request.method in
      let status : reply.status ≡ 200 = sends_a_notice query.root query.content query.mode tag query.doc (request_since query (decimal tag)) request (reply_only reply) from.1 known in
      either (reply.status == 200) ((read : Result Tree NoticeFault) × NoticeAnswer reply.body read × TakesNotice query.doc read outcome) (FailsWith (Status reply.status) outcome)
      (λ _ so. updated query.doc outcome reply.body so.0 outcome.old answer then (updates reply.body (brings.updates status)) so.1 refl so.2)
      (λ no so. let never : true ≡ false = sym (eq-eqb reply.status 200 status) ∙ no in absurd cc) from.2

  -- ---- the two cases of the document

  by_mode : (one : Mode) → IsPatchingMode one → (body : List ℕ) (from now : Version) → UpdatesReplicaBetween one query.doc body from now → UpdatesReplica query.doc body (replica_of_version from) (patch_answer_between from now) (replica_of_version now)
  by_mode NoPatching patching body from now h = absurd patching
  by_mode XcapPatching patching body from now h = h
  by_mode Aggregate patching body from now h = h

  pub present : (d : Document) (from : Version) → 1 ≤ from.tag → from.tag ≤ u64_max → IsPatchingMode query.mode → IsRetainedVersion m query.doc d from → outcome.old ≡ replica_of_version from → FollowsFeed query query.doc outcome
      → GetsReplica (patch_answer_between from d.now) (replica_of_version d.now) outcome
  present d from some small patching retained is follows =
      told from.tag from.tree some small is (λ unknown. retained.retained (ap (λ (s : StoreContents). since s query.doc from.tag) (sym stands) ∙ unknown)) follows (patch_answer_between from d.now) (replica_of_version d.now)
      (λ body h.
      let u : UpdatesReplicaFrom query.mode from.tag query.doc body d = subst (UpdatesReplicaIfStored query.mode from.tag query.doc body) retained.there h in
      let same : from ≡ u.from = u.only from retained.number retained.is_version refl in
      let to : UpdatesReplicaBetween query.mode query.doc body from d.now = subst (λ (v : Version). UpdatesReplicaBetween query.mode query.doc body v d.now) (sym same) u.updates in
      subst (λ (held : ReplicaContents). UpdatesReplica query.doc body held (patch_answer_between from d.now) (replica_of_version d.now)) (sym is) (by_mode query.mode patching body from d.now to))

  never_unknown : (tag : ℕ) → find_document document_id m.documents query.doc ≡ None → since query.content query.doc tag ≢ Unknown
  never_unknown tag none unknown =
      let nothing : find_document stored_id (contents_of m).documents query.doc ≡ None = held_there m.documents query.doc ∙ ap (option_map stored_document) none in
      let gone : since query.content query.doc tag ≡ Gone = ap (λ (s : StoreContents). since s query.doc tag) stands ∙ ap (stored_changes_since tag) nothing in
      let never : Gone ≡ Unknown = sym gone ∙ unknown in
      absurd cc

  pub dropped : (tag : ℕ) (tree : Tree) → find_document document_id m.documents query.doc ≡ None → 1 ≤ tag → tag ≤ u64_max → outcome.old ≡ Some (decimal tag, tree) → FollowsFeed query query.doc outcome
      → GetsReplica Removed None outcome
  dropped tag tree none some small is follows =
      told tag tree some small is (never_unknown tag none) follows Removed None
      (λ body h.
      let drops : (t : Tree) → UpdatesReplica query.doc body (Some (decimal tag, t)) Removed None = subst (UpdatesReplicaIfStored query.mode tag query.doc body) none h in
      subst (λ (held : ReplicaContents). UpdatesReplica query.doc body held Removed None) (sym is) (drops tree))

-- ---- unless out of memory

pub unless_memory : (outcome : FollowOutcome) (P : FollowOutcome → Type 0) (answer : ReplayAnswer) (then : ReplicaContents) → (P outcome → GetsReplica answer then outcome) → HoldsOrNoMemory P outcome → GetsReplica answer then outcome
unless_memory outcome P answer then gets (inl p) = gets p
unless_memory outcome P answer then gets (inr none) = inr none.0

-- the law of the machine, for the document of the replica
pub record Lawful (query : FollowQuery) (m : State) : Type 0 where
  pub kept : IsValidState m
  pub stands : Represents query.content m
  pub asks : (tag : List ℕ) (n : ℕ) → parse_tag tag ≡ Some n → AsksForFeed query.root query.mode n query.doc (feed_request query.root query.mode tag query.doc)
  pub holds : (tag : List ℕ) (reply : SentReply) → IsAnswer query.root query.content (feed_request query.root query.mode tag query.doc) (reply_only reply) → UpdatesAllSubscribers query.root m (feed_request query.root query.mode tag query.doc) reply

module _ (query : FollowQuery) (m : State) (mine : DocId) (outcome : FollowOutcome) (lawful : Lawful query m) (same : mine ≡ query.doc) (follows : HoldsOrNoMemory (FollowsFeed query mine) outcome) where
  its_own : HoldsOrNoMemory (FollowsFeed query query.doc) outcome
  its_own = subst (λ (doc : DocId). HoldsOrNoMemory (FollowsFeed query doc) outcome) same follows

  pub holds_present : (last : ℕ) → last + 1 ≡ query.content.next → last ≤ u64_max → HoldsCurrentVersion m query.mode query.doc outcome
  holds_present last next small d from patching retained is =
      let tag = small_tag m query.doc d from last lawful.kept (next ∙ ap (λ (s : StoreContents). s.next) lawful.stands) small retained in
      unless_memory outcome (FollowsFeed query query.doc) (patch_answer_between from d.now) (replica_of_version d.now)
      (present query m lawful.stands outcome lawful.asks lawful.holds d from tag.0 tag.1 patching retained is) its_own

  pub drops_gone : DropsGoneDocument m query.doc outcome
  drops_gone tag tree none some small is =
      unless_memory outcome (FollowsFeed query query.doc) Removed None (dropped query m lawful.stands outcome lawful.asks lawful.holds tag tree none some small is) its_own
