use Rattle.std.proofs.Common.{◌≡◌, List, Some, bytes_eq, refl, ap, ◌∙◌}
use Rattle.std.proofs.lemmas.Option.{none-some, same_Some}
use Rattle.std.specs.Str.{chars}
use Rattle.xml_names.specs.Scopes.{bound_uri, xml_prefix, xml_uri}
use Rattle.xml_names.specs.declared.names.Decl.{Decl}
use Rattle.edit_plans.proofs.put_attribute.is_xml_space.Goals as goal

letters : chars xml_prefix ≡ xml_prefix
unfolding chars
letters = refl

bound_everywhere : (c : List (List Decl)) → bound_uri c (chars xml_prefix) ≡ Some xml_uri
bound_everywhere c = ap (bound_uri c) letters

pub unreachable-requires : goal.unreachable-requires
unreachable-requires c = none-some xml_uri ((c.in-None.ensures {u = tt}).resolves_as_bound ∙ bound_everywhere c.args.scope.now)

pub returns : goal.returns
returns c = record {
  exact =
      let is : chars c.in-Some.space.now ≡ xml_uri = same_Some (chars c.in-Some.space.now) xml_uri ((c.in-Some.ensures {u = tt}).resolves_as_bound ∙ bound_everywhere c.args.scope.now) in
      c.is.ensures.exact ∙ ap (bytes_eq c.args.uri.now) is;
}
