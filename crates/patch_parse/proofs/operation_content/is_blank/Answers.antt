use Rattle.std.proofs.Common.{◌∙◌, ap}
use Rattle.patch_rules.specs.PatchOperations.{is_white_space}
use Rattle.patch_parse.proofs.operation_content.is_blank.Goals as goal

pub returns : goal.returns
returns c = record { exact = c.is_white_space.ensures.exact ∙ ap is_white_space c.as_str.ensures.same_chars }
