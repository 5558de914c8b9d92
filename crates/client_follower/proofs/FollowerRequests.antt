-- The requests of a follower, by the calls that it made.
use Rattle.std.proofs.Common.{◌≡◌, ℕ, List, Option, None, Some, Result, Ok, Err, refl, subst}
use Rattle.xcap_io.specs.StreamStates.{StreamState}
use Rattle.xml_tree.specs.Tree.{Tree}
use Rattle.doc_names.specs.declared.doc_id.DocId.{DocId}
use Rattle.xcap_client.specs.declared.request.Ask.{Ask}
use Rattle.xcap_client.specs.declared.response.Response.{Response}
use Rattle.patch_rules.specs.Replay.{ReplicaContents}
use Rattle.xcap_client.specs.Asks.{get_ask}
use Rattle.xcap_client.specs.Calls.{MakesCall}
use Rattle.xcap_client.specs.Exchanges.{not_begun}
use Rattle.xcap_client.specs.declared.client_fault.ClientFault.{ClientFault}
use Rattle.xcap_client.specs.declared.client_fault.ClientFault.TheVariants as clients
use Rattle.client_follower.specs.FetchedDocuments.{FetchesDocument}
use Rattle.client_follower.specs.FeedResults.{TakesFeed}
use Rattle.client_follower.specs.FeedPaths.{feed_path}
use Rattle.client_follower.specs.Rounds.{AsksFeed, RefetchesDocument, RunsRound, asks, by_document, by_feed}
use Rattle.client_follower.specs.inner.FollowerChanges.{KeepsFollowerUnlessDecided}
use Rattle.client_follower.specs.Starts.{StartsFollower}
use Rattle.client_follower.specs.FollowerStates.{FollowedDocument, FollowerState}
use Rattle.client_follower.specs.declared.follower_fault.FollowerFault.{FollowerFault}
use Rattle.client_follower.specs.declared.follower_fault.FollowerFault.TheVariants as faults
use Rattle.client_follower.specs.declared.feed_rounds.Round.{Round}

-- when out of memory nothing was called
pub not_called : (root : List ℕ) (ask : Ask) (line : StreamState) → MakesCall root ask line line (Err clients.NoMemory)
not_called root ask line = record { given = Err clients.NoMemory; exchanges = not_begun refl refl; judged = refl }

not_fetched : (document : FollowedDocument) (line : StreamState) → FetchesDocument document line line (Err faults.NoMemory)
not_fetched document line = record { given = Err clients.NoMemory; calls = not_called document.root _ line; takes = refl }

pub not_started : (document : FollowedDocument) (line : StreamState) (result : Result FollowerState FollowerFault) → result ≡ Err faults.NoMemory → StartsFollower document line line result
not_started document line result is = record { fetched = Err faults.NoMemory; fetches = not_fetched document line; told = is }

-- the feed was requested, with this replica afterwards
pub feed_asked : (f : FollowerState) (tag : List ℕ) (tree : Tree) (given : Result Response ClientFault) (held : ReplicaContents) (old new : StreamState) (result : Result (Option Round) FollowerFault)
    → f.held ≡ Some (tag, tree) → MakesCall f.root (get_ask f.user (feed_path tag f.doc)) old new given → TakesFeed f.doc given f.held held result
    → AsksFeed f (record f { held = held }) old new result
feed_asked f tag tree given held old new result holds calls takes = asks tag tree given holds calls takes refl

-- the same fact where the calls were made with equal arguments
pub called_as : (root : List ℕ) (user user' : Option (List ℕ)) (path path' : List ℕ) (old new : StreamState) (given : Result Response ClientFault) → user ≡ user' → path ≡ path'
    → MakesCall root (get_ask user path) old new given → MakesCall root (get_ask user' path') old new given
called_as root user user' path path' old new given same_user same_path calls =
    subst (λ (u : Option (List ℕ)). MakesCall root (get_ask u path') old new given) same_user
    (subst (λ (p : List ℕ). MakesCall root (get_ask user p) old new given) same_path calls)

pub told_round : (f f' : FollowerState) (old new : StreamState) (asked : Option Round) (round : Round) → asked ≡ Some round → AsksFeed f f' old new (Ok asked) → RunsRound f f' old new (Ok round)
told_round f f' old new asked round is feed = by_feed round (subst (λ (r : Option Round). AsksFeed f f' old new (Ok r)) is feed) refl

pub sent_back : (f g f' : FollowerState) (old between new : StreamState) (asked : Option Round) (result : Result Round FollowerFault) → asked ≡ None → AsksFeed f g old between (Ok asked)
    → KeepsFollowerUnlessDecided f g (Ok asked) → RefetchesDocument g f' between new result → RunsRound f f' old new result
sent_back f g f' old between new asked result is feed keeps refetches =
    let same : g ≡ f = subst (λ (r : Option Round). KeepsFollowerUnlessDecided f g (Ok r)) is keeps in
    by_document between
    (subst (λ (h : FollowerState). AsksFeed f h old between (Ok None)) same (subst (λ (r : Option Round). AsksFeed f g old between (Ok r)) is feed))
    (subst (λ (h : FollowerState). RefetchesDocument h f' between new result) same refetches)
