use Rattle.std.proofs.Common.{◌∙◌}
use Rattle.patch_rules.specs.PatchOperations.{plain_value}
use Rattle.patch_parse.proofs.Words.{former_tag}
use Rattle.patch_parse.proofs.document_elements.previous_tag.Goals as goal

pub returns : goal.returns
returns c = record { exact = c.plain_value.ensures.exact ∙ (λ i. plain_value (former_tag i) (c.attrs.ensures.exact i)) }
