use Rattle.std.proofs.Common.{◌++◌, List, map, position, chars, ap, ◌∙◌}
use Rattle.xml_names.specs.declared.names.Attr.{Attr}
use Rattle.xml_names.specs.declared.names.Decl.{Decl}
use Rattle.node_select.specs.Selection.{is_attr_named}
use Rattle.node_select.proofs.step_match.find_attr.Goals as goal

pub returns : goal.returns
returns c = record {
  exact =
      let found = λ (s : List (List Decl)) (attrs : List Attr). position (is_attr_named s (chars c.args.uri.now) (chars c.args.local.now)) attrs in
      c.find_attr_within.ensures.exact ∙ ap (λ (s : List (List Decl)). found (s ++ map (λ x. x.now) c.lists.result.now) c.attrs.result.now) c.empty.ensures.declares_nothing
      ∙ ap (λ (s : List (List Decl)). found s c.attrs.result.now) c.lists.ensures.exact ∙ ap (found c.args.scope.now) c.attrs.ensures.exact;
}
