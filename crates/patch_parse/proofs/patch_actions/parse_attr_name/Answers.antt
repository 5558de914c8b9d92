use Rattle.std.proofs.Common.{◌≡◌, ℕ, List, IfOk, subst, ◌∙◌}
use Rattle.patch_rules.specs.PatchOperations.{parse_attr_name}
use Rattle.patch_parse.proofs.patch_actions.parse_attr_name.Goals as goal

pub returns : goal.returns
returns c = record {
  ok =
      subst (λ (cs : List ℕ). IfOk c.parse_attr_name_chars.result (λ name. name ≡ parse_attr_name cs)) (c.deref.ensures.value ∙ c.in_ok-all.ensures.same_chars ∙ c.as_str.ensures.same_chars)
      c.parse_attr_name_chars.ensures.ok;
}
