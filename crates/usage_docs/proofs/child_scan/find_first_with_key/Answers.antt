use Rattle.std.proofs.Common.{◌≡◌, ◌∙◌, ◌+◌, Some, add-one, arith, sym}
use Rattle.usage_docs.specs.UniqueKeys.{sibling_key, sibling_key_at}
use Rattle.usage_docs.specs.readers.SiblingElements.{node_children}
use Rattle.usage_docs.proofs.FindingLemmas.{counts_next}
use Rattle.usage_docs.proofs.ScanLemmas.{marked_here, none_next, none_same, one_elem, one_other}
use Rattle.usage_docs.proofs.child_scan.find_first_with_key.Goals as goal
use Rattle.usage_docs.proofs.child_scan.find_first_with_key.Goals.{in-Elem+else-has_sibling_key, in_default}

pub returns-then-has_sibling_key-clause-marked_there : goal.returns-then-has_sibling_key-clause-marked_there
returns-then-has_sibling_key-clause-marked_there c = λ _.
    marked_here c.args.row c.args.scope.now c.args.nodes.now c.loop-node.node-index c.node-item.result c.in-Elem.child_element c.loop-node.child c.loop-node-test.true c.node-item.is c.in-Elem.is c.loop-node.invariant.counted
    ∙ c.has_sibling_key.ensures.exact.0 c.if-has_sibling_key.true

pub loop-node-preserved : goal.loop-node-preserved
loop-node-preserved c =
    let row = c.args.row in
    let scope = c.args.scope.now in
    let ns = c.args.nodes.now in
    let i = c.loop-node.node-index in
    let n = c.node-item.result in
    let child = c.loop-node.child in
    let new = c.match-node.child in
    let inv = c.loop-node.invariant in
    let small = inv.small in
    let m = sibling_key c.args.kind c.args.value.now in
    elim c.match-node.branch [
      | in-Elem+else-has_sibling_key w ↦
          (let more = w.child-is in
          let here = marked_here row scope ns i n w.in-Elem.child_element child c.loop-node-test.true c.node-item.is w.in-Elem.is inv.counted in
          record {
            counted = counts_next row scope ns n i c.loop-node-test.true c.node-item.is child new (i + 1) (add-one i) (one_elem n w.in-Elem.child_element child new w.in-Elem.is more) inv.counted;
            small = omega (arith, more, small);
            none = none_next (λ j. sibling_key_at row scope (node_children ns) j ≡ Some m) child new more inv.none
                (λ h. let yes = w.has_sibling_key.ensures.exact.1 (sym here ∙ h) in let no = w.if-has_sibling_key.false in cc);
          })
      | in_default w ↦
          (let same = w.child-is in
          record {
            counted = counts_next row scope ns n i c.loop-node-test.true c.node-item.is child new (i + 1) (add-one i) (one_other n child new w.in_default.not-Elem same) inv.counted;
            small = omega (arith, same, small);
            none = none_same (λ j. sibling_key_at row scope (node_children ns) j ≡ Some m) child new same inv.none;
          })
    ]
