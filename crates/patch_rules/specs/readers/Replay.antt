-- What a diff document makes of a replica, where its selectors are read from left to right.
use Rattle.std.specs.Prelude.{ℕ, Bool, List, Option, Result}
use Rattle.xml_tree.specs.Tree.{Tree}
use Rattle.xml_names.specs.declared.names.Decl.{Decl}
use Rattle.patch_rules.specs.Replay as words
use Rattle.patch_rules.specs.Replay.{ReplayAnswer, ReplayFault, ReplicaContents, DocumentOutcome}
use Rattle.patch_rules.specs.readers.AppliedOperations.{selector_reading}

abbrev pub apply_operations : ℕ → List (List Decl) → List Tree → Tree → Result Tree ReplayFault
apply_operations = words.apply_operations selector_reading

abbrev pub change_outcome : ℕ → List (List Decl) → List Tree → List ℕ → ReplicaContents
    → Result DocumentOutcome ReplayFault
change_outcome = words.change_outcome selector_reading

abbrev pub renewed_contents : ℕ → List (List Decl) → List Tree → Option (List ℕ) → ReplicaContents
    → Result DocumentOutcome ReplayFault
renewed_contents = words.renewed_contents selector_reading

abbrev pub outcome_by_previous_tag : ℕ → List (List Decl) → List Tree → Option (List ℕ)
    → Option (List ℕ) → ReplicaContents → Result DocumentOutcome ReplayFault
outcome_by_previous_tag = words.outcome_by_previous_tag selector_reading

abbrev pub outcome_of_document : ℕ → List (List Decl) → Tree → ReplicaContents
    → Result DocumentOutcome ReplayFault
outcome_of_document = words.outcome_of_document selector_reading

abbrev pub outcome_of_documents : ℕ → List (List Decl) → List Tree → ReplicaContents
    → Result (Option ReplicaContents) ReplayFault
outcome_of_documents = words.outcome_of_documents selector_reading

abbrev pub replay_outcome : (List ℕ → Bool) → Tree → ReplicaContents
    → Result (ReplayAnswer × ReplicaContents) ReplayFault
replay_outcome = words.replay_outcome selector_reading
