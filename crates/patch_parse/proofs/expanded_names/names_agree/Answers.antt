use Rattle.std.proofs.Common.{◌∙◌}
use Rattle.patch_rules.specs.PatchOperations.{names_agree}
use Rattle.patch_parse.proofs.expanded_names.names_agree.Goals as goal

pub returns : goal.returns
returns c = record {
  exact =
      c.content_names_agree.ensures.exact
      ∙ (λ i. names_agree (c.from_scope-here.ensures.exact i) (c.from_scope-there.ensures.exact i) c.args.operation.now.content);
}
