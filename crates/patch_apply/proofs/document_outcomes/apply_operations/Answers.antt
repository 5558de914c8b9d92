use Rattle.std.proofs.Common.{◌+◌, suc, Err, List, drop, map, refl, sym, ap, ◌∙◌}
use Rattle.xml_tree.specs.Tree.{Tree}
use Rattle.patch_rules.specs.readers.AppliedOperations.{apply_operation}
use Rattle.patch_rules.specs.Replay.{with_operation_number}
use Rattle.patch_rules.specs.readers.Replay.{apply_operations}
use Rattle.patch_apply.proofs.Lows.{applied_low}
use Rattle.patch_apply.proofs.OperationOrder.{applied_next, fault_ends, item_now, one_more, tells_same}
use Rattle.patch_apply.proofs.document_outcomes.apply_operations.Goals as goal

pub loop-operation-init : goal.loop-operation-init
loop-operation-init c = record { low = c.requires.height_bounded; same = λ n e. (n, e, refl) }

pub loop-operation-preserved : goal.loop-operation-preserved
loop-operation-preserved c = record {
  low = applied_low c.args.scope.now c.operation-item.result.now c.loop-operation.tree c.apply_operation.new.tree c.in-Ok.ensures.as_specified;
  same = λ n e.
      let x = c.loop-operation.invariant.same n e in (
        suc x.0,
        c.saturating_add-number.ensures ∙ one_more c.loop-operation.number x.0 x.1,
        x.2
            ∙ ap (λ (os : List Tree). apply_operations x.0 c.args.scope.now os c.loop-operation.tree)
            (item_now c.args.operations.now c.loop-operation.operation-index c.operation-item.result c.loop-operation-test.true c.operation-item.is)
            ∙ applied_next x.0 c.args.scope.now c.operation-item.result.now (map (λ y. y.now) (drop (c.loop-operation.operation-index + 1) c.args.operations.now)) c.loop-operation.tree c.apply_operation.new.tree c.in-Ok.ensures.as_specified,
      );
}

pub returns-in-Err-clause-as_specified : goal.returns-in-Err-clause-as_specified
returns-in-Err-clause-as_specified c = λ n e.
    let x = c.loop-operation.invariant.same n e in
    let o = c.operation-item.result.now in let scope = c.args.scope.now in let t = c.loop-operation.tree in let new = c.apply_operation.new.tree in
    let same = x.2
    ∙ ap (λ (os : List Tree). apply_operations x.0 scope os t)
    (item_now c.args.operations.now c.loop-operation.operation-index c.operation-item.result c.loop-operation-test.true c.operation-item.is) in
    tells_same {X = Unit {0}} (λ _. new) _ _ (Err c.numbered_error.result) (sym same)
    (
    fault_ends {X = Tree} {Z = Unit {0}} (λ y. y) (λ _. new) (with_operation_number x.0 (apply_operation scope o t)) (apply_operations (suc x.0) scope (map (λ y. y.now) (drop (c.loop-operation.operation-index + 1) c.args.operations.now))) c.numbered_error.result
    (c.numbered_error.ensures.numbered_fault x.0 (apply_operation scope o t) new (c.saturating_add-number.ensures ∙ one_more c.loop-operation.number x.0 x.1) c.in-Err.ensures.as_specified)
    )
