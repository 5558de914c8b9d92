use Rattle.std.proofs.Common.{List, ℕ, IsSome, sym, ap, ◌∙◌, subst}
use Rattle.xml_tree.specs.Tree.{at}
use Rattle.patch_rules.specs.PatchOperations.{new_attr_result, put_result}
use Rattle.patch_rules.specs.PatchOperations as words
use Rattle.patch_parse.specs.Views.{position_view, action_view}
use Rattle.patch_parse.specs.declared.patch_actions.PatchAction.{PatchAction}
use Rattle.patch_apply.proofs.OperationStages.{edits_same}
use Rattle.patch_apply.proofs.LocationActions.{path_same, spot_there}
use Rattle.patch_apply.proofs.operations.apply_action.Goals as goal

pub put_content-requires-clause-place_exists : goal.put_content-requires-clause-place_exists
put_content-requires-clause-place_exists c = subst (λ (p : List ℕ). IsSome (at p c.args.tree.now)) (sym c.into_path.ensures.exact) (spot_there c.args.tree.now c.args.location c.requires.place_exists)

pub add_attr-requires-clause-place_exists : goal.add_attr-requires-clause-place_exists
add_attr-requires-clause-place_exists c = subst (λ (p : List ℕ). IsSome (at p c.args.tree.now)) (sym c.into_path-in-NewAttr.ensures.exact) (spot_there c.args.tree.now c.args.location c.requires.place_exists)

pub returns-in-Put : goal.returns-in-Put
returns-in-Put c = record {
  as_specified = λ w is.
      edits_same _ _ c.put_content.new.tree c.put_content.result
      (ap (λ (p : List ℕ). put_result c.args.here.now (position_view c.in-Put.position) p c.args.operation.now.content c.args.tree.now) (c.into_path.ensures.exact ∙ path_same c.args.tree.now c.args.location w is)
      ∙ ap (λ (task : PatchAction). words.apply_action c.args.here.now (action_view task) w c.args.operation.now.content c.args.tree.now) (sym c.in-Put.is))
      c.put_content.ensures.as_specified;
}

pub returns-in-NewAttr : goal.returns-in-NewAttr
returns-in-NewAttr c = record {
  as_specified = λ w is.
      edits_same _ _ c.add_attr.new.tree c.add_attr.result
      (ap (λ (p : List ℕ). new_attr_result c.args.here.now c.in-NewAttr.name p c.args.operation.now.content c.args.tree.now) (c.into_path-in-NewAttr.ensures.exact ∙ path_same c.args.tree.now c.args.location w is)
      ∙ ap (λ (task : PatchAction). words.apply_action c.args.here.now (action_view task) w c.args.operation.now.content c.args.tree.now) (sym c.in-NewAttr.is))
      c.add_attr.ensures.as_specified;
}
