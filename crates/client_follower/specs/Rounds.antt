-- What a round of a follower does: it asks the feed for the changes since the replica's etag, and
-- then for the document where the feed doesn't suffice.
use Rattle.std.specs.Prelude.{◌≡◌, ℕ, List, Option, None, Some, Result, Ok, Err}
use Rattle.xcap_io.specs.StreamStates.{StreamState}
use Rattle.xml_tree.specs.Tree.{Tree}
use Rattle.xcap_client.specs.declared.response.Response.{Response}
use Rattle.patch_apply.specs.Views.{replica_view}
use Rattle.patch_apply.specs.declared.replica.ReplicaVersion.{ReplicaVersion}
use Rattle.xcap_client.specs.Asks.{get_ask}
use Rattle.xcap_client.specs.Calls.{MakesCall}
use Rattle.xcap_client.specs.declared.client_fault.ClientFault.{ClientFault}
use Rattle.client_follower.specs.FetchedDocuments.{FetchesDocument}
use Rattle.client_follower.specs.FeedResults.{TakesFeed}
use Rattle.client_follower.specs.FeedPaths.{feed_path}
use Rattle.client_follower.specs.FollowerStates.{FollowerState}
use Rattle.client_follower.specs.declared.follower_fault.FollowerFault.{FollowerFault}
use Rattle.client_follower.specs.declared.feed_rounds.Round.{Round}
use Rattle.client_follower.specs.declared.feed_rounds.Round.TheVariants.{Refetched, Removed}

-- The replica was empty, and nothing was requested; or one call requested the feed since the
-- replica's etag, on a connection of its own.
pub data AsksFeed (f f' : FollowerState) (old new : StreamState)
    (result : Result (Option Round) FollowerFault) : Type 0 where
  holds_nothing : f.held ≡ None → f' ≡ f → new ≡ old → result ≡ Ok None
      → AsksFeed f f' old new result
  asks : (tag : List ℕ) (tree : Tree) (given : Result Response ClientFault)
      → f.held ≡ Some (tag, tree)
      → MakesCall f.root (get_ask f.user (feed_path tag f.doc)) old new given
      → TakesFeed f.doc given f.held f'.held result
      → f' ≡ record f { held = f'.held } → AsksFeed f f' old new result

-- the replica after the document was fetched, and the outcome of the round
abbrev pub HoldsFetchedVersion : FollowerState → FollowerState
    → Result (Option ReplicaVersion) FollowerFault
    → Result Round FollowerFault → Type 0
HoldsFetchedVersion f f' (Ok (Some held)) result =
    (f' ≡ record f { held = replica_view (Some held) }) × (result ≡ Ok Refetched)
HoldsFetchedVersion f f' (Ok None) result = (f' ≡ record f { held = None }) × (result ≡ Ok Removed)
HoldsFetchedVersion f f' (Err fault) result = (f' ≡ f) × (result ≡ Err fault)

pub record RefetchesDocument (f f' : FollowerState) (old new : StreamState)
    (result : Result Round FollowerFault) : Type 0 where
  pub fetched : Result (Option ReplicaVersion) FollowerFault
  pub fetches : FetchesDocument (record { root = f.root; user = f.user; doc = f.doc }) old new
      fetched
  pub holds : HoldsFetchedVersion f f' fetched result

-- The feed's diff document decided what became of the document; or it didn't, and then the
-- document was fetched; or the request for the feed failed.
pub data RunsRound (f f' : FollowerState) (old new : StreamState)
    (result : Result Round FollowerFault) : Type 0 where
  by_feed : (round : Round) → AsksFeed f f' old new (Ok (Some round)) → result ≡ Ok round
      → RunsRound f f' old new result
  by_document : (between : StreamState) → AsksFeed f f old between (Ok None)
      → RefetchesDocument f f' between new result
      → RunsRound f f' old new result
  failed : (fault : FollowerFault) → AsksFeed f f' old new (Err fault) → f' ≡ f → result ≡ Err fault
      → RunsRound f f' old new result
