use Rattle.std.proofs.Common.{◌≡◌, drop, map}
use Rattle.std.specs.List.{list_all}
use Rattle.patch_rules.specs.Replay.{is_operation}
use Rattle.patch_parse.proofs.document_elements.are_operations.Given as goal

abbrev pub invariant-loop-operation : goal.invariant-loop-operation
invariant-loop-operation l = list_all (is_operation l.scope) (map (λ x. x.now) (drop l.operation-index l.operations)) ≡ list_all (is_operation l.scope) (map (λ x. x.now) l.operations)
