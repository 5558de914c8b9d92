-- What the private types mean in the terms of `patch_rules`.
use Rattle.std.specs.Prelude.{ℕ, List, length, Option, None, Some, if◌then◌else◌}
use Rattle.xml_names.specs.declared.names.Decl.{Decl}
use Rattle.xml_tree.specs.Tree.{Tree}
use Rattle.patch_rules.specs.Replay as replay
use Rattle.patch_parse.specs.declared.operation_error.OperationError.{OperationError}
use Rattle.patch_parse.specs.declared.operation_error.OperationError.TheVariants as wrongs
use Rattle.patch_apply.specs.declared.fault.ApplyFault.{ApplyFault}
use Rattle.patch_apply.specs.declared.fault.ApplyFault.TheVariants as faults
use Rattle.patch_apply.specs.declared.document_outcomes.DocumentOutcome.{DocumentOutcome}
use Rattle.patch_apply.specs.declared.document_outcomes.DocumentOutcome.TheVariants as turns

-- the fault of the operation of a number
abbrev pub fault_of_operation : ℕ → OperationError → ApplyFault
fault_of_operation n wrongs.Directive = faults.Directive n
fault_of_operation n wrongs.Prefix = faults.NamespacePrefix n
fault_of_operation n wrongs.Unlocated = faults.Unlocated n
fault_of_operation n wrongs.RootTouched = faults.RootOperation n
fault_of_operation n wrongs.WrongNodes = faults.NodeTypes n
fault_of_operation n wrongs.NoSpace = faults.Whitespace n

-- what a document makes of a replica, by the contents of the replica afterwards
abbrev pub outcome_view : DocumentOutcome → replay.ReplicaContents → replay.DocumentOutcome
outcome_view turns.Updated new = replay.Now new
outcome_view turns.Missing new = replay.Missing

-- the number of operations, where `body-not-changed` is none
abbrev pub counted_operations : List (List Decl) → List Tree → ℕ
counted_operations c os = if replay.is_body_unchanged c os then 0 else length os

-- the contents of a replica after documents, or none where one has no operations for its change
abbrev pub contents_view : DocumentOutcome → replay.ReplicaContents → Option replay.ReplicaContents
contents_view turns.Updated new = Some new
contents_view turns.Missing new = None
