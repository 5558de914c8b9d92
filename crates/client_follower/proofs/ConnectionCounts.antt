-- One call after another begins one connection after another.
use Rattle.std.proofs.Common.{◌≡◌, inl, inr, ℕ, zero, suc, ◌+◌, ◌≤◌, List, [], ◌∷◌, ◌++◌, replicate, Option, None, Some, Result, Ok, Err, refl, sym, ap, subst, ◌∙◌, arith, append-nil, append_assoc, length-append, encode_utf8_all}
use Rattle.xcap_io.specs.StreamStates.{StreamState}
use Rattle.xcap_io.specs.Connections.{peer_traffic}
use Rattle.xcap_io.specs.ConnectionHistories.{Traffic}
use Rattle.doc_names.specs.declared.doc_id.DocId.{DocId}
use Rattle.xcap_client.specs.declared.request.Ask.{Ask}
use Rattle.xcap_client.specs.declared.response.Response.{Response}
use Rattle.patch_apply.specs.declared.replica.ReplicaVersion.{ReplicaVersion}
use Rattle.xcap_client.specs.ServerAddresses.{address_of}
use Rattle.xcap_client.specs.Calls.{MakesCall}
use Rattle.xcap_client.specs.Connections.{ConnectsOnce, none_began, broke_off, responded, BeginsNoConnection, BeginsOneConnection}
use Rattle.xcap_client.specs.declared.client_fault.ClientFault.{ClientFault}
use Rattle.xcap_client.specs.declared.client_fault.ClientFault.TheVariants as clients
use Rattle.xcap_client.proofs.CallTraffic.{connects_once}
use Rattle.xml_tree.specs.Tree.{Tree}
use Rattle.client_follower.specs.FetchedDocuments.{FetchesDocument, TakesDocument}
use Rattle.client_follower.specs.FollowerFaults.{fault_of_client}
use Rattle.client_follower.specs.FeedResults.{TakesFeed}
use Rattle.client_follower.specs.Rounds.{AsksFeed, holds_nothing, asks, RunsRound, by_feed, by_document, failed, HoldsFetchedVersion}
use Rattle.client_follower.specs.Starts.{StartsFollower, follower_of}
use Rattle.client_follower.specs.FollowerStates.{FollowedDocument, FollowerState}
use Rattle.client_follower.specs.declared.follower_fault.FollowerFault.{FollowerFault}
use Rattle.client_follower.specs.declared.feed_rounds.Round.{Round}
use Rattle.client_follower.specs.ConnectionCounts.{BeginsConnections, CallBeginsConnections, RoundBeginsConnections, StartBeginsConnections}

module _ (root : List ℕ) where
  abbrev address : List ℕ
  address = encode_utf8_all (address_of root)

  none : (old new : StreamState) → BeginsNoConnection old new → BeginsConnections root 0 old new
  none old new n = record { passed = []; many = refl; behind = n.same ∙ sym (append-nil (peer_traffic old)); dialled = n.same_addresses }

  nothing : (old new : StreamState) → new ≡ old → BeginsConnections root 0 old new
  nothing old new same = none old new (record { same = ap peer_traffic same; same_addresses = ap (λ (l : StreamState). l.peer.addresses) same })

  one : (old new : StreamState) (passed : Traffic) → BeginsOneConnection root old new passed → BeginsConnections root 1 old new
  one old new passed o = record { passed = passed ∷ []; many = refl; behind = o.behind; dialled = o.dialled }

  by_once : (ask : Ask) (old new : StreamState) (result : Result Response ClientFault) → ConnectsOnce root ask old new result → CallBeginsConnections root old new result
  by_once ask old new result (none_began n why) = inr (none old new n, why)
  by_once ask old new result (broke_off passed o cut is) = inl (one old new passed o)
  by_once ask old new result (responded passed answer o took said judged) = inl (one old new passed o)

  repeats : (n m : ℕ) → replicate m address ++ replicate n address ≡ replicate (n + m) address
  repeats n zero = ap (λ (k : ℕ). replicate k address) (n_zero n)
    where
      n_zero : (n : ℕ) → n ≡ n + 0
      n_zero n = omega arith
  repeats n (suc m) = ap (λ (l : List (List ℕ)). address ∷ l) (repeats n m) ∙ ap (λ (k : ℕ). replicate k address) (n_suc n m)
    where
      n_suc : (n m : ℕ) → suc (n + m) ≡ n + suc m
      n_suc n m = omega arith

  -- n connections began, and then m others
  both : (n m : ℕ) (old mid new : StreamState) → BeginsConnections root n old mid → BeginsConnections root m mid new → BeginsConnections root (n + m) old new
  both n m old mid new a b = record {
    passed = a.passed ++ b.passed;
    many = length-append a.passed b.passed ∙ omega (arith, a.many, b.many);
    behind = b.behind ∙ ap (λ (l : List Traffic). l ++ b.passed) a.behind ∙ append_assoc (peer_traffic old) a.passed b.passed;
    dialled =
        b.dialled ∙ ap (λ (l : List (List ℕ)). replicate m address ++ l) a.dialled
        ∙ sym (append_assoc (replicate m address) (replicate n address) old.peer.addresses)
        ∙ ap (λ (l : List (List ℕ)). l ++ old.peer.addresses) (repeats n m);
  }

  -- at most one began, and one where the call was answered or refused
  pub record AtMostOne (old new : StreamState) (given : Result Response ClientFault) : Type 0 where
    pub count : ℕ
    pub begins : BeginsConnections root count old new
    pub few : count ≤ 1
    pub well : (given ≡ Err clients.NoMemory → ⊥) → (given ≡ Err clients.PeerFault → ⊥) → count ≡ 1

  at_most_one : (old new : StreamState) (given : Result Response ClientFault) → CallBeginsConnections root old new given → AtMostOne old new given
  at_most_one old new given (inl b) = record { count = 1; begins = b; few = omega arith; well = λ _ _. refl }
  at_most_one old new given (inr (b, inl why)) = record { count = 0; begins = b; few = omega arith; well = λ wanted _. absurd (wanted why) }
  at_most_one old new given (inr (b, inr why)) = record { count = 0; begins = b; few = omega arith; well = λ _ failed. absurd (failed why) }

pub call_begins : (root : List ℕ) (ask : Ask) (old new : StreamState) (result : Result Response ClientFault) → MakesCall root ask old new result → CallBeginsConnections root old new result
call_begins root ask old new result call = by_once root ask old new result (connects_once root ask old new result call)

begun_by : (root : List ℕ) (ask : Ask) (old new : StreamState) (given : Result Response ClientFault) → MakesCall root ask old new given → AtMostOne root old new given
begun_by root ask old new given call = at_most_one root old new given (call_begins root ask old new given call)

-- a fault is no success
never : {T E : Type 0} (r : Result T E) (e : E) (x : T) → r ≡ Err e → r ≡ Ok x → ⊥
never r e x is well = let no : ⊥ = cc in no

-- a document that was fetched came from a call that was answered or refused
fetched_well : (given : Result Response ClientFault) (r : Result (Option ReplicaVersion) FollowerFault) (x : Option ReplicaVersion) → TakesDocument given r → r ≡ Ok x → (given ≡ Err clients.NoMemory → ⊥) × (given ≡ Err clients.PeerFault → ⊥)
fetched_well given r x takes well = (
  λ e. never r (fault_of_client clients.NoMemory) x (subst (λ (g : Result Response ClientFault). TakesDocument g r) e takes) well,
  λ e. never r (fault_of_client clients.PeerFault) x (subst (λ (g : Result Response ClientFault). TakesDocument g r) e takes) well,
)

-- and so did what a feed decided
told_well : (doc : DocId) (given : Result Response ClientFault) (held held' : Option (List ℕ × Tree)) (r : Result (Option Round) FollowerFault) (x : Option Round) → TakesFeed doc given held held' r → r ≡ Ok x → (given ≡ Err clients.NoMemory → ⊥) × (given ≡ Err clients.PeerFault → ⊥)
told_well doc given held held' r x takes well = (
  λ e. never r (fault_of_client clients.NoMemory) x (subst (λ (g : Result Response ClientFault). TakesFeed doc g held held' r) e takes).1 well,
  λ e. never r (fault_of_client clients.PeerFault) x (subst (λ (g : Result Response ClientFault). TakesFeed doc g held held' r) e takes).1 well,
)

-- ---- followers

-- at most one began, and one where `Well` holds
record BeginsOnce (root : List ℕ) (old new : StreamState) (Well : Type 0) : Type 0 where
  count : ℕ
  begins : BeginsConnections root count old new
  few : count ≤ 1
  well : Well → count ≡ 1

fetch_begins : (document : FollowedDocument) (old new : StreamState) (r : Result (Option ReplicaVersion) FollowerFault) → FetchesDocument document old new r → BeginsOnce document.root old new ((x : Option ReplicaVersion) × (r ≡ Ok x))
fetch_begins document old new r f =
    let b = begun_by document.root _ old new f.given f.calls in
    record { count = b.count; begins = b.begins; few = b.few; well = λ (x, ok). let t = fetched_well f.given r x f.takes ok in b.well t.0 t.1 }

started_well : (document : FollowedDocument) (fetched : Result (Option ReplicaVersion) FollowerFault) (f : FollowerState) → follower_of document fetched ≡ Ok f → (x : Option ReplicaVersion) × (fetched ≡ Ok x)
started_well document (Ok x) f is = (x, refl)
started_well document (Err fault) f is = let no : ⊥ = cc in absurd no

pub start_begins : (document : FollowedDocument) (old new : StreamState) (r : Result FollowerState FollowerFault) → StartsFollower document old new r → StartBeginsConnections document.root old new r
start_begins document old new r s =
    let b = fetch_begins document old new s.fetched s.fetches in
    (b.count, b.begins, b.few, λ f is. b.well (started_well document s.fetched f (sym s.told ∙ is)))

-- the request for the feed began at most one, and one where the feed decided what became of the
-- document
feed_begins : (f f' : FollowerState) (old new : StreamState) (r : Result (Option Round) FollowerFault) → AsksFeed f f' old new r → BeginsOnce f.root old new ((x : Round) × (r ≡ Ok (Some x)))
feed_begins f f' old new r (holds_nothing held stays same is) =
    record { count = 0; begins = nothing f.root old new same; few = omega arith; well = λ (x, ok). let no : ⊥ = cc in absurd no }
feed_begins f f' old new r (asks tag tree given held call takes stays) =
    let b = begun_by f.root _ old new given call in
    record { count = b.count; begins = b.begins; few = b.few; well = λ (x, ok). let t = told_well f.doc given f.held f'.held r (Some x) takes ok in b.well t.0 t.1 }

refetched_well : (f f' : FollowerState) (fetched : Result (Option ReplicaVersion) FollowerFault) (r : Result Round FollowerFault) (round : Round) → HoldsFetchedVersion f f' fetched r → r ≡ Ok round → (x : Option ReplicaVersion) × (fetched ≡ Ok x)
refetched_well f f' (Ok x) r round h is = (x, refl)
refetched_well f f' (Err fault) r round h is = absurd (never r fault round h.1 is)

pub round_begins : (f f' : FollowerState) (old new : StreamState) (r : Result Round FollowerFault) → RunsRound f f' old new r → RoundBeginsConnections f.root old new r
round_begins f f' old new r (by_feed round feed is) =
    let b = feed_begins f f' old new (Ok (Some round)) feed in
    let few : b.count ≤ 2 = omega (arith, b.few) in
    let one : b.count ≡ 1 = b.well (round, refl) in
    (b.count, b.begins, few, λ x ok. omega (arith, one))
round_begins f f' old new r (by_document between feed fetch) =
    let a = feed_begins f f old between (Ok None) feed in
    let b = fetch_begins (record { root = f.root; user = f.user; doc = f.doc }) between new fetch.fetched fetch.fetches in
    let few : a.count + b.count ≤ 2 = omega (arith, a.few, b.few) in (
      a.count + b.count,
      both f.root a.count b.count old between new a.begins b.begins,
      few,
      λ round ok. let one : b.count ≡ 1 = b.well (refetched_well f f' fetch.fetched r round fetch.holds ok) in omega (arith, one),
    )
round_begins f f' old new r (failed fault feed stays is) =
    let b = feed_begins f f' old new (Err fault) feed in
    let few : b.count ≤ 2 = omega (arith, b.few) in
    (b.count, b.begins, few, λ round ok. absurd (never r fault round is ok))
