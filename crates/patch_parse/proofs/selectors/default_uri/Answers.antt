use Rattle.std.proofs.Common.{Option, List, ℕ, [], unwrap_or, ap, ◌∙◌}
use Rattle.std.proofs.lemmas.Str.{chars-nil}
use Rattle.xml_names.specs.Scopes.{bound_uri}
use Rattle.patch_parse.proofs.selectors.default_uri.Goals as goal

pub returns-in-Some : goal.returns-in-Some
returns-in-Some c = record {
  default_namespace = ap (λ (o : Option (List ℕ)). unwrap_or o []) (c.in-Some.ensures.resolves_as_bound ∙ ap (bound_uri c.args.scope.now) chars-nil);
}

pub returns-in-None : goal.returns-in-None
returns-in-None c = record {
  default_namespace = chars-nil ∙ ap (λ (o : Option (List ℕ)). unwrap_or o []) (c.in-None.ensures.resolves_as_bound ∙ ap (bound_uri c.args.scope.now) chars-nil);
}
