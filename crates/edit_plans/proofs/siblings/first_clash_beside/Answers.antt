use Rattle.std.proofs.Common.{◌++◌, ◌∷◌, [], ℕ, List, Option, Some, ap, ◌∙◌, subst, add-one}
use Rattle.xml_tree.specs.Tree.{child_elements_of}
use Rattle.usage_docs.specs.declared.key_repeats.Clash.{Clash}
use Rattle.usage_docs.specs.readers.SiblingElements.{IsFirstInOrder}
use Rattle.edit_rules.specs.NewElements.{ClashesInside}
use Rattle.edit_plans.specs.inner.ChildChangeResults.{siblings_without}
use Rattle.edit_rules.proofs.FirstBeside.{first_in_new, first_behind, no_first}
use Rattle.edit_plans.proofs.TwinLemmas.{none_before, twin_at}
use Rattle.edit_plans.proofs.siblings.first_clash_beside.Goals as goal

pub returns-in-Some-first_in_new : goal.returns-in-Some-first_in_new
returns-in-Some-first_in_new c = record {
  first_of_clashes =
      let row = c.args.row in
      let scope = c.args.parent.now.scope.now in
      let xs = siblings_without c.args.left_out (child_elements_of c.args.parent.now.element.now) in
      let new = c.args.new.now in
      let gap = c.args.gap in
      let before = none_before row scope xs new gap c.requires.gap_in_range c.requires.no_clash c.find_duplicate-duplicate.result (twin_at row scope xs new c.find_duplicate-duplicate.result c.find_duplicate-duplicate.ensures.some_is_marked) c.find_duplicate-duplicate.ensures.none_is_marked (c.key_before.ensures.none_is_marked c.in_default.is) in
      let first = subst (λ (o : Option Clash). IsFirstInOrder (ClashesInside row scope new) c.child_path-here.result o) c.in-Some-first_in_new.is c.first_in_new.ensures.first_of_clashes in
      first_in_new row scope xs new gap c.args.parent.now.path.now c.in-Some-first_in_new.clash before (subst (λ (z : List ℕ). IsFirstInOrder (ClashesInside row scope new) z (Some c.in-Some-first_in_new.clash)) c.child_path-here.ensures.exact first);
}

pub returns-in-Some-duplicate : goal.returns-in-Some-duplicate
returns-in-Some-duplicate c = record {
  first_of_clashes =
      let row = c.args.row in
      let scope = c.args.parent.now.scope.now in
      let xs = siblings_without c.args.left_out (child_elements_of c.args.parent.now.element.now) in
      let new = c.args.new.now in
      let gap = c.args.gap in
      let duplicate = c.in-Some-duplicate.duplicate in
      let clash : Clash = record { path = c.child_path.result; key = duplicate.key } in
      let path = c.child_path.ensures.exact ∙ ap (λ (n : ℕ). c.args.parent.now.path.now ++ n ∷ []) (add-one duplicate.child) in
      let inside = subst (λ (o : Option Clash). IsFirstInOrder (ClashesInside row scope new) c.child_path-here.result o) c.in_default-first_in_new.is c.first_in_new.ensures.first_of_clashes in
      first_behind row scope xs new gap c.args.parent.now.path.now duplicate.child clash c.requires.no_clash c.requires.gap_in_range path (c.key_before.ensures.none_is_marked c.in_default.is duplicate c.in-Some-duplicate.is) (twin_at row scope xs new c.find_duplicate-duplicate.result c.find_duplicate-duplicate.ensures.some_is_marked duplicate c.in-Some-duplicate.is) inside;
}

pub returns-in-None : goal.returns-in-None
returns-in-None c = record {
  first_of_clashes =
      let row = c.args.row in
      let scope = c.args.parent.now.scope.now in
      let xs = siblings_without c.args.left_out (child_elements_of c.args.parent.now.element.now) in
      let new = c.args.new.now in
      let inside = subst (λ (o : Option Clash). IsFirstInOrder (ClashesInside row scope new) c.child_path-here.result o) c.in_default-first_in_new.is c.first_in_new.ensures.first_of_clashes in
      no_first row scope xs new c.args.gap c.args.parent.now.path.now (c.find_duplicate-duplicate.ensures.none_is_marked c.in-None.is) inside;
}
