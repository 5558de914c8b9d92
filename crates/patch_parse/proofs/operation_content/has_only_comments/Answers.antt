use Rattle.std.proofs.Common.{◌∙◌, ap}
use Rattle.std.specs.List.{list_all}
use Rattle.patch_parse.specs.inner.OperationContents.{is_comment}
use Rattle.patch_parse.proofs.ByNodes.{remarks_in}
use Rattle.patch_parse.proofs.operation_content.has_only_comments.Goals as goal

pub returns : goal.returns
returns c = record { exact = c.are_comments.ensures.exact ∙ ap (list_all is_comment) c.nodes.ensures.content_nodes ∙ remarks_in c.args.operation.now.content }
