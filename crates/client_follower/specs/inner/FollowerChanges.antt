-- When a round leaves a follower as it was.
use Rattle.std.specs.Prelude.{◌≡◌, Option, None, Some, Result, Ok, Err}
use Rattle.client_follower.specs.FollowerStates.{FollowerState}
use Rattle.client_follower.specs.declared.follower_fault.FollowerFault.{FollowerFault}
use Rattle.client_follower.specs.declared.feed_rounds.Round.{Round}

-- the follower may change only where a diff document decided what became of the document
abbrev pub KeepsFollowerUnlessDecided : FollowerState → FollowerState
    → Result (Option Round) FollowerFault → Type 0
KeepsFollowerUnlessDecided f f' (Ok (Some round)) = Unit {0}
KeepsFollowerUnlessDecided f f' (Ok None) = f' ≡ f
KeepsFollowerUnlessDecided f f' (Err fault) = f' ≡ f
