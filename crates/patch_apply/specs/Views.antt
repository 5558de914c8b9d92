-- What the types of the code mean in the terms of `patch_rules`.
use Rattle.std.specs.Prelude.{◌≤◌, ℕ, min, List, Option, None, Some, option_map}
use Rattle.xml_names.specs.Limits.{u64_max}
use Rattle.xml_names.specs.declared.limits.TheConstants.{MAX_LEVELS}
use Rattle.xml_tree.specs.Tree.{Tree, height}
use Rattle.patch_rules.specs.PatchOperations as words
use Rattle.patch_rules.specs.Replay as replay
use Rattle.patch_apply.specs.declared.fault.ApplyFault.{ApplyFault}
use Rattle.patch_apply.specs.declared.fault.ApplyFault.TheVariants as faults
use Rattle.patch_apply.specs.declared.replica.Applied.{Applied}
use Rattle.patch_apply.specs.declared.replica.Applied.TheVariants as answers
use Rattle.patch_apply.specs.declared.replica.ReplicaVersion.{ReplicaVersion}

-- ---- faults

-- the fault of the operation of a number, where a number beyond the greatest `usize` is reported
-- as the greatest
abbrev pub operation_fault : ℕ → words.OperationError → ApplyFault
operation_fault n words.Directive = faults.Directive (min n u64_max)
operation_fault n words.Prefix = faults.NamespacePrefix (min n u64_max)
operation_fault n words.Unlocated = faults.Unlocated (min n u64_max)
operation_fault n words.RootTouched = faults.RootOperation (min n u64_max)
operation_fault n words.WrongNodes = faults.NodeTypes (min n u64_max)
operation_fault n words.NoSpace = faults.Whitespace (min n u64_max)

-- how a fault is reported
abbrev pub apply_fault_of : replay.ReplayFault → ApplyFault
apply_fault_of replay.WrongDocument = faults.WrongDocument
apply_fault_of (replay.WrongTag held wanted) = faults.WrongTag held wanted
apply_fault_of (replay.AtOperation n wrong) = operation_fault n wrong

-- ---- contents of a replica, and answers

abbrev pub version_view : ReplicaVersion → List ℕ × Tree
version_view h = (h.tag, h.root)

abbrev pub replica_view : Option ReplicaVersion → replay.ReplicaContents
replica_view held = option_map version_view held

-- the replica's tree has at most as many levels as a document may have
abbrev pub IsWithinLevels : replay.ReplicaContents → Type 0
IsWithinLevels None = Unit {0}
IsWithinLevels (Some h) = height h.1 ≤ MAX_LEVELS

abbrev pub answer_view : Applied → replay.ReplayAnswer
answer_view answers.Same = replay.Same
answer_view answers.Patched = replay.Patched
answer_view answers.Removed = replay.Removed
answer_view (answers.Fetch tag) = replay.Fetch tag
