-- What is stated of the result of a call, unless it is out of memory (`Answered`); for a whole
-- diff document also the replica afterwards.
use Rattle.std.specs.Prelude.{◌≡◌, Result, Ok, Err}
use Rattle.xml_names.specs.declared.read_error.ReadError.{ReadError}
use Rattle.xml_names.specs.declared.read_error.ReadError.TheVariants.{Fault, NoMemory}
use Rattle.xml_tree.specs.Tree.{Tree}
use Rattle.patch_rules.specs.PatchOperations as words
use Rattle.patch_rules.specs.Replay as replay
use Rattle.patch_parse.specs.declared.operation_error.OperationError.{OperationError}
use Rattle.patch_apply.specs.declared.fault.ApplyFault.{ApplyFault}
use Rattle.patch_apply.specs.declared.replica.Applied.{Applied}
use Rattle.patch_apply.specs.Views.{answer_view, apply_fault_of}
use Rattle.patch_parse.specs.Views.{error_view}

-- for an operation on a tree in place: the tree afterwards, or the error
abbrev pub IsEditResult : Result Tree words.OperationError → Tree → Result (Unit {0}) OperationError
    → Type 0
IsEditResult stated new (Ok done) = stated ≡ Ok new
IsEditResult stated new (Err wrong) = stated ≡ Err (error_view wrong)

-- a stated fault is reported as itself
pub record IsStatedFault {Y : Type 0} (stated : Result Y replay.ReplayFault)
    (fault : ApplyFault) : Type 0 where
  pub stated_fault : replay.ReplayFault
  pub is : stated ≡ Err stated_fault
  pub told : fault ≡ apply_fault_of stated_fault

-- for documents: the value, by its view, or the first fault
abbrev pub IsDocumentsResult : {X Y : Type 0} → (X → Y) → Result Y replay.ReplayFault
    → Result X ApplyFault
    → Type 0
IsDocumentsResult view stated (Ok x) = stated ≡ Ok (view x)
IsDocumentsResult view stated (Err fault) = IsStatedFault stated fault

-- for a diff document: the stated answer and the stated replica; or the stated fault, or out of
-- memory, and the replica is unchanged
abbrev pub IsReplayResult : Result (replay.ReplayAnswer × replay.ReplicaContents) replay.ReplayFault
    → replay.ReplicaContents → Result Applied (ReadError ApplyFault) → replay.ReplicaContents
    → Type 0
IsReplayResult stated old (Ok answer) new = stated ≡ Ok (answer_view answer, new)
IsReplayResult stated old (Err (Fault fault)) new = IsStatedFault stated fault × (new ≡ old)
IsReplayResult stated old (Err NoMemory) new = new ≡ old
