use Rattle.std.proofs.Common.{◌≡◌, ◌∙◌, ◌+◌, List, Some, None, length, take, add-one, arith, sym, ap, subst}
use Rattle.std.proofs.lemmas.Grind.{common_steps}
use Rattle.xml_tree.specs.Tree.{Tree}
use Rattle.xml_tree.specs.declared.tree.Node.{Node}
use Rattle.usage_docs.specs.declared.schema_table.Key.{Key}
use Rattle.usage_docs.specs.UniqueKeys.{RepeatsKey, sibling_key}
use Rattle.usage_docs.specs.readers.KeyRepeats.{IsFirstRepeat}
use Rattle.usage_docs.specs.readers.SiblingElements.{node_children}
use Rattle.usage_docs.proofs.ClashLemmas.{kids_are}
use Rattle.usage_docs.proofs.FindingLemmas.{counts_next}
use Rattle.usage_docs.proofs.ScanLemmas.{has_key, is_first, marked_here, none_is_first, none_next, none_same, one_elem, one_other, repeats, repeats_none, unmarked}
use Rattle.usage_docs.proofs.child_scan.scan_for_repeat.Goals as goal
use Rattle.usage_docs.proofs.child_scan.scan_for_repeat.Goals.{in-Elem, in-Some+else-find_first_with_key-child, in_default-sibling_key_of, in_default}

pub returns-in_default-key_of : goal.returns-in_default-key_of
returns-in_default-key_of c =
    let m = sibling_key c.in-Some.kind c.in-Some.value.now in
    absurd (has_key c.args.row c.args.scope.now c.in-Elem.child_element m (sym c.in-Some.ensures.exact) (sym c.key_of.ensures.exact ∙ c.in_default-key_of.is))

pub returns-then-find_first_with_key-child : goal.returns-then-find_first_with_key-child
returns-then-find_first_with_key-child c =
    let row = c.args.row in
    let scope = c.args.scope.now in
    let ns = c.nodes-nodes.result.now in
    let child = c.loop-node.child in
    let key = c.in-Some-key_of.key in
    let m = sibling_key c.in-Some.kind c.in-Some.value.now in
    let child_elements = kids_are ns c.args.element.now.content c.nodes-nodes.ensures.nodes_content in
    let here = marked_here row scope ns c.loop-node.node-index c.node-item.result c.in-Elem.child_element child c.loop-node-test.true c.node-item.is c.in-Elem.is c.loop-node.invariant.counted ∙ sym c.in-Some.ensures.exact in
    let less = c.if-find_first_with_key-child.true in
    let rep = repeats row scope (node_children ns) child m c.find_first_with_key.result key here (omega (arith, less)) c.find_first_with_key.ensures.marked_there (sym c.key_of.ensures.exact ∙ c.in-Some-key_of.is) in
    record { is_first_repeat = subst (λ (ks : List Tree). IsFirstRepeat row scope ks (Some (record { child = child; key = key }))) (sym child_elements) (is_first row scope (node_children ns) child key rep c.loop-node.invariant.none) }

pub loop-node-preserved : goal.loop-node-preserved
loop-node-preserved c =
    let row = c.args.row in
    let scope = c.args.scope.now in
    let ns = c.nodes-nodes.result.now in
    let i = c.loop-node.node-index in
    let n = c.node-item.result in
    let child = c.loop-node.child in
    let new = c.match-node.child in
    let inv = c.loop-node.invariant in
    let small = inv.small in
    elim c.match-node.branch [
      | in-Elem w ↦
          (let more = w.child-is in
          let child_element = w.in-Elem.child_element in
          let here = marked_here row scope ns i n child_element child c.loop-node-test.true c.node-item.is w.in-Elem.is inv.counted in
          let none : (key : Key) → RepeatsKey row scope (node_children ns) child key → ⊥ =
          elim w.match-sibling_key_of.branch [
            | in-Some+else-find_first_with_key-child w' ↦
                (let no = w'.if-find_first_with_key-child.false in
                λ key rep. repeats_none row scope (node_children ns) child (sibling_key w'.in-Some.kind w'.in-Some.value.now) w'.find_first_with_key.result key (here ∙ sym w'.in-Some.ensures.exact) (omega (arith, no)) w'.find_first_with_key.ensures.none_before rep)
            | in_default-sibling_key_of w' ↦
                (let said = rw w'.in_default-sibling_key_of.is at w.sibling_key_of.ensures.exact in
                λ key rep. unmarked row scope (node_children ns) child key (here ∙ sym said) rep)
          ] in
          record {
            counted = counts_next row scope ns n i c.loop-node-test.true c.node-item.is child new (i + 1) (add-one i) (one_elem n child_element child new w.in-Elem.is more) inv.counted;
            small = omega (arith, more, small);
            none = λ k key less rep. none_next (λ j. RepeatsKey row scope (node_children ns) j key) child new more (λ j lt r. inv.none j key lt r) (none key) k less rep;
          })
      | in_default w ↦
          (let same = w.child-is in
          record {
            counted = counts_next row scope ns n i c.loop-node-test.true c.node-item.is child new (i + 1) (add-one i) (one_other n child new w.in_default.not-Elem same) inv.counted;
            small = omega (arith, same, small);
            none = λ k key less rep. none_same (λ j. RepeatsKey row scope (node_children ns) j key) child new same (λ j lt r. inv.none j key lt r) k less rep;
          })
    ]

pub returns : goal.returns
returns c =
    let row = c.args.row in
    let scope = c.args.scope.now in
    let ns = c.nodes-nodes.result.now in
    let i = c.loop-node.node-index in
    let inv = c.loop-node.invariant in
    let child_elements = kids_are ns c.args.element.now.content c.nodes-nodes.ensures.nodes_content in
    let over = c.loop-node-test.false in
    let all : take i ns ≡ ns = grind (arith, common_steps) in
    let count : c.loop-node.child ≡ length (node_children ns) = inv.counted ∙ ap (λ (ms : List Node). length (node_children ms)) all in
    record { is_first_repeat = subst (λ (ks : List Tree). IsFirstRepeat row scope ks None) (sym child_elements) (none_is_first row scope (node_children ns) c.loop-node.child count inv.none) }
