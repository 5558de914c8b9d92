use Rattle.std.proofs.Common.{◌∙◌, ap}
use Rattle.std.proofs.lemmas.Result.{IfOk-weaker}
use Rattle.patch_parse.specs.inner.OperationContents.{joined_text}
use Rattle.patch_parse.proofs.ByNodes.{text_is_value}
use Rattle.patch_parse.proofs.operation_content.content_value.Goals as goal

pub returns : goal.returns
returns c = record {
  ok =
      IfOk-weaker c.joined_text.result _ _ (λ text is. is ∙ ap joined_text c.nodes.ensures.content_nodes ∙ text_is_value c.args.operation.now.content) c.joined_text.ensures.ok;
}
