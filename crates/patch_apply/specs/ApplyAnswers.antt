-- The answer of a diff document that is applied, and the replica afterwards.
use Rattle.std.specs.Prelude.{◌≡◌, ℕ, Bool, List, Result, Ok, Err}
use Rattle.xml_tree.specs.Tree.{Tree}
use Rattle.xml_names.specs.declared.read_error.ReadError.{ReadError}
use Rattle.xml_names.specs.declared.read_error.ReadError.TheVariants.{Fault, NoMemory}
use Rattle.patch_rules.specs.Replay.{ReplayFault, ReplicaContents, IsReplayOutcome}
use Rattle.patch_apply.specs.declared.fault.ApplyFault.{ApplyFault}
use Rattle.patch_apply.specs.declared.replica.Applied.{Applied}
use Rattle.patch_apply.specs.Views.{answer_view, apply_fault_of}

-- the outcome of the diff document for the replica: its answer, and the new replica; or its fault;
-- after a fault and when out of memory the replica is unchanged
abbrev pub IsApplyAnswer : (List ℕ → Bool) → Tree → ReplicaContents
    → Result Applied (ReadError ApplyFault) → ReplicaContents → Type 0
IsApplyAnswer is_mine notice old (Ok answer) new =
    IsReplayOutcome is_mine notice old (Ok (answer_view answer, new))
IsApplyAnswer is_mine notice old (Err (Fault fault)) new =
    (stated : ReplayFault) × IsReplayOutcome is_mine notice old (Err stated)
    × (fault ≡ apply_fault_of stated)
    × (new ≡ old)
IsApplyAnswer is_mine notice old (Err NoMemory) new = new ≡ old
