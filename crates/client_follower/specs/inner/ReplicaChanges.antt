-- When a replica may change.
use Rattle.std.specs.Prelude.{◌≡◌, Option, None, Some, Result, Ok, Err}
use Rattle.patch_rules.specs.Replay.{ReplicaContents}
use Rattle.client_follower.specs.declared.follower_fault.FollowerFault.{FollowerFault}
use Rattle.client_follower.specs.declared.feed_rounds.Round.{Round}

-- the replica may change only where a diff document decided what became of the document
abbrev pub KeepsReplicaUnlessDecided : ReplicaContents → ReplicaContents
    → Result (Option Round) FollowerFault → Type 0
KeepsReplicaUnlessDecided held held' (Ok (Some round)) = Unit {0}
KeepsReplicaUnlessDecided held held' (Ok None) = held' ≡ held
KeepsReplicaUnlessDecided held held' (Err fault) = held' ≡ held
