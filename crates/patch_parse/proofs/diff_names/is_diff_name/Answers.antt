use Rattle.std.proofs.Common.{◌∙◌, ap, bytes_eq, List, ℕ, Option, [], unwrap_or}
use Rattle.patch_rules.specs.Notices.{diff_uri}
use Rattle.patch_parse.proofs.diff_names.is_diff_name.Goals as goal

pub returns-in-None : goal.returns-in-None
returns-in-None c = record { exact = ap (λ (o : Option (List ℕ)). bytes_eq (unwrap_or o []) diff_uri) c.in-None.ensures.exact }

pub returns-in-Some : goal.returns-in-Some
returns-in-Some c = record {
  exact = c.is_diff_uri.ensures.exact ∙ ap (λ (o : Option (List ℕ)). bytes_eq (unwrap_or o []) diff_uri) c.in-Some.ensures.exact;
}
