use Rattle.std.proofs.Common.{◌∙◌, ap}
use Rattle.xml_names.specs.Scopes.{bound_uri}
use Rattle.patch_parse.proofs.diff_names.resolve_prefix.Goals as goal

pub returns : goal.returns
returns c = record { exact = c.resolve.ensures.resolves_as_bound ∙ ap (bound_uri c.args.scope.now) c.as_str.ensures.same_chars }
