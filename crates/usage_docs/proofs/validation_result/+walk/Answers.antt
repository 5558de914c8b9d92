use Rattle.std.proofs.Common.{◌≡◌, ◌≤◌, ◌<◌, ◌+◌, ◌∷◌, [], ℕ, List, ◌&&◌, Bool, cond, Option, true, length, take, drop, suc, add-one, refl, sym, ap, subst, ◌∙◌, arith, length-append}
use Rattle.std.specs.Option.{ForSome}
use Rattle.std.proofs.lemmas.Grind.{common_steps}
use Rattle.xml_tree.specs.Nodes.{node_height}
use Rattle.xml_tree.specs.Tree.{height, child_elements_of}
use Rattle.xml_tree.specs.declared.tree.Node.{Node}
use Rattle.xml_tree.specs.TreeScopes.{inside}
use Rattle.usage_docs.specs.declared.key_repeats.KeyedChild.{KeyedChild}
use Rattle.usage_docs.specs.declared.schema_table.ElementKind.{ElementKind}
use Rattle.usage_docs.specs.UniqueKeys.{SiblingKey}
use Rattle.usage_docs.specs.ReferenceForms.{AllReferencesFormed, IsFormedNode, are_references_formed}
use Rattle.usage_docs.specs.KeyAttributes.{are_attrs_allowed}
use Rattle.usage_docs.specs.SchemaTable.{Scope, kind_of}
use Rattle.usage_docs.specs.Validity.{IsValidOfKind, is_text_allowed}
use Rattle.usage_docs.specs.readers.FirstFaults.{IsFirstClashAfter, IsFormedOfKind, AddsKey, RepeatsKeyIfKnown}
use Rattle.usage_docs.specs.readers.ContentParts.{may_follow, part_of}
use Rattle.usage_docs.specs.readers.KeyRepeats.{EntersKey, HoldsKeys}
use Rattle.usage_docs.specs.readers.SiblingElements.{node_children, count_with_node}
use Rattle.usage_docs.specs.readers.ContentWalks.{IsContentOfKind, IsNodeValid, part_after_node}
use Rattle.usage_docs.proofs.ClashLemmas.{kids_are, kind_is, scope_is}
use Rattle.usage_docs.proofs.FindingLemmas.{And, ClashPassed, FirstSoFar, and_both, and_equal, and_same, and_then, clash_next, counts_next, formed_end, formed_next, key_next, marked_by, none_clash, none_found_yet, none_known, nothing_more, one_more_at_most, same_test, some_known, under_test, valid_end, valid_in_row, valid_next}
use Rattle.usage_docs.proofs.NodesFormed.{nodes_formed}
use Rattle.usage_docs.proofs.NodesValid.{nodes_hold}
use Rattle.usage_docs.proofs.RepeatLemmas.{none_held}
use Rattle.usage_docs.proofs.validation_result.+walk.Goals as goal

-- ---- the nodes of an element

pub walk_inside-loop-node-init : goal.walk_inside-loop-node-init
walk_inside-loop-node-init t c =
    let ns = c.nodes-nodes.result.now in
    let e = c.args.element.now in
    let content = c.nodes-nodes.ensures.nodes_content in
    record {
      valid = under_test c.args.found.now.valid (nodes_hold c.args.row c.args.scope.now ns e.content content);
      formed = under_test c.args.found.now.formed (nodes_formed c.args.row c.args.scope.now ns e.content content);
      child_elements = kids_are ns e.content content;
      counted = refl;
      small = omega arith;
      clear = omega arith;
      held = λ _. subst (λ (ks : List KeyedChild). HoldsKeys c.args.row c.args.scope.now (child_elements_of e) 0 ks) (sym c.new.ensures.items) (none_held c.args.row c.args.scope.now (child_elements_of e));
      first = λ low. none_found_yet c.args.row c.args.scope.now (child_elements_of e) c.args.trail.now c.args.found.now.clash;
    }

pub walk_inside-loop-node-preserved : goal.walk_inside-loop-node-preserved
walk_inside-loop-node-preserved t c =
    let row = c.args.row in
    let scope = c.args.scope.now in
    let trail = c.args.trail.now in
    let e = c.args.element.now in
    let ns = c.nodes-nodes.result.now in
    let i = c.loop-node.node-index in
    let n = c.node-item.result in
    let inv = c.loop-node.invariant in
    let done = c.walk_node.ensures in
    let old = c.loop-node.passed in
    let new = c.walk_node.new.passed in
    let first = c.args.found.now in
    let found = c.loop-node.found in
    let next = c.walk_node.new.found in
    let within = c.loop-node-test.true in
    let is = c.node-item.is in
    record {
      valid = valid_next row scope ns n i within is found.valid next.valid first.valid old.part new.part (i + 1) done.valid_with_node done.next_part (add-one i) inv.valid;
      formed = formed_next row scope ns n i within is found.formed next.formed first.formed (i + 1) done.formed_with_node (add-one i) inv.formed;
      child_elements = inv.child_elements;
      counted = counts_next row scope ns n i within is old.count new.count (i + 1) (add-one i) done.counts_node inv.counted;
      small = (let less = one_more_at_most n old.count in let upto = inv.small in let counts = done.counts_node in omega (arith, less, upto, counts));
      clear = done.clear_at_most;
      held = key_next row scope (child_elements_of e) trail ns inv.child_elements i old.count inv.counted n old new within is refl done.counts_node done.enters_key inv.held;
      first = λ low.
          (let lower = subst (λ (x : Node). node_height x < height e) (sym is) (c.nodes-nodes.ensures.is_no_higher i n within) in
          let here : length trail + node_height n ≤ 64 = omega (arith, low, lower) in
          clash_next row scope (child_elements_of e) trail ns inv.child_elements i old.count inv.counted n old new first.clash found.clash next.clash within is refl done.counts_node (done.clash_in_node here) (inv.first low));
    }

pub walk_inside-returns : goal.walk_inside-returns
walk_inside-returns t c =
    let row = c.args.row in
    let scope = c.args.scope.now in
    let trail = c.args.trail.now in
    let e = c.args.element.now in
    let xs = child_elements_of e in
    let ns = c.nodes-nodes.result.now in
    let i = c.loop-node.node-index in
    let inv = c.loop-node.invariant in
    let passed = c.loop-node.passed in
    let first = c.args.found.now in
    let found = c.loop-node.found in
    let none : drop i ns ≡ [] = grind (arith, common_steps) in
    let all : take i ns ≡ ns = grind (arith, common_steps) in
    let count : passed.count ≡ length xs = inv.counted ∙ ap (λ (ms : List Node). length (node_children ms)) all ∙ ap length (sym inv.child_elements) in
    let stay = c.note_repeat.ensures.others_stay in
    record {
      valid_inside = valid_end row scope (drop i ns) passed.part found.valid c.may_follow.result c.note_repeat.new.found.valid first.valid (IsContentOfKind row scope e.content) none stay.0 c.may_follow.ensures.exact inv.valid;
      formed_inside = subst (λ (b : Bool). And b first.formed (AllReferencesFormed row scope e.content)) (sym stay.1) (formed_end row scope (drop i ns) found.formed first.formed (AllReferencesFormed row scope e.content) none inv.formed);
      first_clash_inside = λ low. c.note_repeat.ensures.is_first_repeat row scope e first.clash (c.repeat_among-repeat.ensures.is_first_repeat (λ all. subst (λ (k : ℕ). HoldsKeys row scope xs k passed.keys.items) count (inv.held all))) low
          (subst (λ (k : ℕ). FirstSoFar row scope xs trail k passed.clear first.clash found.clash) count (inv.first low));
    }

-- ---- a node

pub walk_node-returns-in-Elem : goal.walk_node-returns-in-Elem
walk_node-returns-in-Elem t c =
    let row = c.args.row in
    let scope = c.args.scope.now in
    let old = c.args.passed.now in
    let new = c.validate_child.new.passed in
    let found = c.args.found.now in
    let next = c.validate_child.new.found in
    let is = sym c.in-Elem.is in
    let done = c.validate_child.ensures in
    record {
      valid_with_node = subst (λ (n : Node). (And next.valid found.valid (IsNodeValid row scope old.part n))) is done.valid_with_child;
      formed_with_node = subst (λ (n : Node). (And next.formed found.formed (IsFormedNode row scope n))) is done.formed_with_child;
      next_part = subst (λ (n : Node). (new.part ≡ part_after_node row scope old.part n)) is done.next_part;
      counts_node = subst (λ (n : Node). (new.count ≡ count_with_node n old.count)) is done.counts_child;
      clear_at_most = done.clear_at_most;
      enters_key = subst (λ (n : Node). (AddsKey row scope n old new)) is done.enters_key;
      clash_in_node = subst (λ (n : Node). (length c.args.trail.now + node_height n ≤ 64 → ClashPassed row scope c.args.trail.now n old found.clash new next.clash)) is done.clash_in_child;
    }

pub walk_node-returns-in-Chars : goal.walk_node-returns-in-Chars
walk_node-returns-in-Chars t c =
    let row = c.args.row in
    let scope = c.args.scope.now in
    let old = c.args.passed.now in
    let found = c.args.found.now in
    let is = sym c.in-Chars.is in
    let passes = c.is_text_allowed.result in
    let says : passes ≡ is_text_allowed row c.in-Chars.text = c.is_text_allowed.ensures.exact ∙ ap (is_text_allowed row) c.as_str.ensures.same_chars in
    record {
      valid_with_node = subst (λ (n : Node). And (found.valid && passes) found.valid (IsNodeValid row scope old.part n)) is (and_equal (found.valid && passes) found.valid passes _ refl (same_test passes (is_text_allowed row c.in-Chars.text) says));
      formed_with_node = subst (λ (n : Node). And found.formed found.formed (IsFormedNode row scope n)) is (nothing_more found.formed);
      next_part = subst (λ (n : Node). old.part ≡ part_after_node row scope old.part n) is refl;
      counts_node = subst (λ (n : Node). old.count ≡ count_with_node n old.count) is refl;
      clear_at_most = c.requires.clear_bounded;
      enters_key = subst (λ (n : Node). AddsKey row scope n old old) is (refl, refl);
      clash_in_node = λ low. subst (λ (n : Node). ClashPassed row scope c.args.trail.now n old found.clash old found.clash) is (refl, refl);
    }

pub walk_node-returns-in-Comment : goal.walk_node-returns-in-Comment
walk_node-returns-in-Comment t c =
    let row = c.args.row in
    let scope = c.args.scope.now in
    let old = c.args.passed.now in
    let found = c.args.found.now in
    let is = sym c.in-Comment.is in
    record {
      valid_with_node = subst (λ (n : Node). And found.valid found.valid (IsNodeValid row scope old.part n)) is (nothing_more found.valid);
      formed_with_node = subst (λ (n : Node). And found.formed found.formed (IsFormedNode row scope n)) is (nothing_more found.formed);
      next_part = subst (λ (n : Node). old.part ≡ part_after_node row scope old.part n) is refl;
      counts_node = subst (λ (n : Node). old.count ≡ count_with_node n old.count) is refl;
      clear_at_most = c.requires.clear_bounded;
      enters_key = subst (λ (n : Node). AddsKey row scope n old old) is (refl, refl);
      clash_in_node = λ low. subst (λ (n : Node). ClashPassed row scope c.args.trail.now n old found.clash old found.clash) is (refl, refl);
    }

-- ---- a child

pub validate_child-returns : goal.validate_child-returns
validate_child-returns t c =
    let row = c.args.row in
    let scope = c.args.scope.now in
    let trail = c.args.trail.now in
    let e = c.args.child_element.now in
    let child = c.find_placement-child.result in
    let old = c.args.passed.now in
    let new = c.add.new.self in
    let found = c.args.found.now in
    let mid = found.valid && c.may_follow.result in
    let next = c.walk_if_kind.new.found in
    let is = scope_is scope e c.inside-inside.result c.index_decls-declared.result c.decls.result.now c.inside-inside.ensures.adds_declarations c.index_decls-declared.ensures.holds_declarations c.decls.ensures.exact in
    let kind = kind_is row scope e c.inside-inside.result c.name.result.now child.kind child.kind c.find_placement-child.ensures.child_kind is c.name.ensures.exact refl in
    let part : child.part ≡ part_of row (inside scope e) e.name =
    c.find_placement-child.ensures.child_part ∙ ap (λ (s : Scope). part_of row s c.name.result.now) is ∙ ap (part_of row (inside scope e)) c.name.ensures.exact in
    let follow = same_test c.may_follow.result (may_follow row old.part (part_of row (inside scope e) e.name)) (c.may_follow.ensures.exact ∙ ap (may_follow row old.part) part) in
    let walked = c.walk_if_kind.ensures in
    let added = c.add.ensures in
    let valid = subst (λ (o : Option ElementKind). And next.valid mid (ForSome o (λ k. IsValidOfKind k (inside scope e) e))) (sym kind)
    (subst (λ (s : Scope). And next.valid mid (ForSome child.kind (λ k. IsValidOfKind k s e))) is walked.valid_with_element) in
    let formed = subst (λ (o : Option ElementKind). And next.formed found.formed (ForSome o (λ k. IsFormedOfKind k (inside scope e) e))) (sym kind)
    (subst (λ (s : Scope). And next.formed found.formed (ForSome child.kind (λ k. IsFormedOfKind k s e))) is walked.formed_with_element) in
    let here = c.child-here.ensures.exact in
    record {
      valid_with_child = and_then found.valid mid next.valid (and_equal mid found.valid c.may_follow.result _ refl follow) valid;
      formed_with_child = formed;
      next_part = added.same_part ∙ part;
      counts_child = added.counts_child;
      clear_at_most = added.clear_at_most;
      enters_key = subst (λ (m : Option SiblingKey). new.holds_all ≡ true → (old.holds_all ≡ true) × EntersKey m old.count old.keys.items new.keys.items) (marked_by row scope e child.kind c.attrs.result.now kind c.attrs.ensures.exact) added.enters_key;
      clash_in_child = λ low.
          (let long = ap length here ∙ length-append trail (old.count ∷ []) in
          let below = walked.first_clash_below (omega (arith, low, long)) in
          let first = subst (λ (o : Option ElementKind). IsFirstClashAfter found.clash (RepeatsKeyIfKnown o (inside scope e) e) c.child-here.result next.clash) (sym kind)
          (subst (λ (s : Scope). IsFirstClashAfter found.clash (RepeatsKeyIfKnown child.kind s e) c.child-here.result next.clash) is below) in
          (subst (λ (p : List ℕ). IsFirstClashAfter found.clash (RepeatsKeyIfKnown (kind_of row (inside scope e) e.name) (inside scope e) e) p next.clash) here first, added.counts_clear ∙ ap (λ (b : Bool). cond b old.clear (suc old.clear)) c.is_some.ensures));
    }

-- ---- an element that may have a kind

pub walk_if_kind-returns-in_default : goal.walk_if_kind-returns-in_default
walk_if_kind-returns-in_default t c =
    let kind = c.args.kind in
    let scope = c.args.scope.now in
    let e = c.args.element.now in
    let found = c.args.found.now in
    record {
      valid_with_element = none_known kind c.in_default.is (λ k. IsValidOfKind k scope e) found.valid;
      formed_with_element = none_known kind c.in_default.is (λ k. IsFormedOfKind k scope e) found.formed;
      first_clash_below = λ low. none_clash kind c.in_default.is scope e c.args.trail.now found.clash;
    }

pub walk_if_kind-returns : goal.walk_if_kind-returns
walk_if_kind-returns t c =
    let kind = c.args.kind in
    let known = c.in-Some.known in
    let scope = c.args.scope.now in
    let e = c.args.element.now in
    let found = c.args.found.now in
    let valid = found.valid && c.are_attrs_allowed.result in
    let formed = found.formed && c.are_references_formed.result in
    let next = c.walk_inside.new.found in
    let walked = c.walk_inside.ensures in
    let attrs = same_test c.are_attrs_allowed.result (are_attrs_allowed known scope e.attrs) (c.are_attrs_allowed.ensures.exact ∙ ap (are_attrs_allowed known scope) c.attrs.ensures.exact) in
    let form = same_test c.are_references_formed.result (are_references_formed known e.attrs e.content) c.are_references_formed.ensures.exact in
    record {
      valid_with_element =
          and_same next.valid found.valid (and_both (valid_in_row known scope e) (some_known kind known c.in-Some.is (λ k. IsValidOfKind k scope e)))
          (and_then found.valid valid next.valid (and_equal valid found.valid c.are_attrs_allowed.result _ refl attrs) walked.valid_inside);
      formed_with_element =
          and_same next.formed found.formed (some_known kind known c.in-Some.is (λ k. IsFormedOfKind k scope e)) (and_then found.formed formed next.formed (and_equal formed found.formed c.are_references_formed.result _ refl form) walked.formed_inside);
      first_clash_below = λ low. subst (λ (o : Option ElementKind). IsFirstClashAfter found.clash (RepeatsKeyIfKnown o scope e) c.args.trail.now next.clash) (sym c.in-Some.is) (walked.first_clash_inside low);
    }
