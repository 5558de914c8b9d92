use Rattle.std.proofs.Common.{sym, ◌∙◌}
use Rattle.patch_apply.specs.inner.ActionResults.{insert_result}
use Rattle.patch_parse.specs.Views.{position_view}
use Rattle.patch_apply.proofs.ActionResults.{put_beside_root, put_nothing, put_somewhere}
use Rattle.patch_apply.proofs.OperationStages.{edits_same}
use Rattle.patch_apply.proofs.elements.put_content.Goals as goal

pub returns-then-not-is_not_beside_root : goal.returns-then-not-is_not_beside_root
returns-then-not-is_not_beside_root c = record {
  as_specified = put_beside_root c.args.here.now (position_view c.args.position) c.args.path c.args.operation.now.content c.args.tree.now (sym c.is_not_beside_root.ensures.exact ∙ c.if-not-is_not_beside_root.true);
}

pub returns-then-not-has_nodes : goal.returns-then-not-has_nodes
returns-then-not-has_nodes c = record {
  as_specified =
      put_nothing c.args.here.now (position_view c.args.position) c.args.path c.args.operation.now.content c.args.tree.now (sym c.is_not_beside_root.ensures.exact ∙ c.if-not-is_not_beside_root.false)
      (sym c.has_nodes.ensures.exact ∙ c.if-not-has_nodes.true);
}

pub returns : goal.returns
returns c = record {
  as_specified =
      edits_same _ _ c.insert_content.new.tree c.insert_content.result
      (
      (λ i. insert_result c.args.here.now (c.insertion_place-gap.ensures.insert_path i) (c.insertion_place-gap.ensures.insert_place i) c.args.operation.now.content c.args.tree.now)
      ∙ sym (
      put_somewhere c.args.here.now (position_view c.args.position) c.args.path c.args.operation.now.content c.args.tree.now
      (sym c.is_not_beside_root.ensures.exact ∙ c.if-not-is_not_beside_root.false) (sym c.has_nodes.ensures.exact ∙ c.if-not-has_nodes.false)
      )
      )
      c.insert_content.ensures.as_specified;
}
