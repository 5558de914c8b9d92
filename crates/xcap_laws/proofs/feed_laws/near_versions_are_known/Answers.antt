use Rattle.element_watch.specs.SelectionHistory.{notes_after}
use Rattle.store_core.specs.State.{versions}
use Rattle.xcap_laws.proofs.FeedStatuses.{known_is_answered}
use Rattle.xcap_laws.proofs.KnownChanges as changes
use Rattle.xcap_laws.proofs.feed_laws.near_versions_are_known.Goals as goal

pub returns : goal.returns
returns x = record {
  known_exactly = changes.known_exactly;
  near_is_known = changes.near_is_known;
  never_410 = λ root c m request a mode id d number v kept stands there is few light answers target.
      known_is_answered root c request a mode v.tag id (notes_after number (versions d)) (changes.near_is_known c m id d number v kept stands there is few light) answers target;
}
