use Rattle.std.proofs.Common.{◌-◌, ◌++◌, ◌∷◌, [], List, length, map, take, drop, position, chars, ap, sym, ◌∙◌}
use Rattle.xml_names.specs.declared.names.Decl.{Decl}
use Rattle.node_select.specs.Selection.{is_attr_named}
use Rattle.node_select.proofs.Lists.{first_inside, none_inside}
use Rattle.node_select.proofs.step_match.+find_attr_within.Goals as goal

pub returns-in_default : goal.returns-in_default
returns-in_default t c = record {
  exact =
      let found = λ (s : List (List Decl)). position (is_attr_named s (chars c.args.uri.now) (chars c.args.local.now)) c.args.attrs.now in
      c.attr_index.ensures.exact ∙ ap found (sym (none_inside c.args.scope.now c.args.lists.now c.in_default.len_below));
}

pub returns : goal.returns
returns t c = record {
  exact =
      let found = λ (s : List (List Decl)). position (is_attr_named s (chars c.args.uri.now) (chars c.args.local.now)) c.args.attrs.now in
      let ls = c.args.lists.now in
      let rest = map (λ x. x.now) (take (length ls - 1) (drop 1 ls)) in
      let first = c.inside.ensures.adds_declarations ∙ ap (λ (ds : List Decl). c.args.scope.now ++ ds ∷ []) c.index_decls-declared.ensures.holds_declarations in
      c.find_attr_within.ensures.exact ∙ ap (λ (s : List (List Decl)). found (s ++ rest)) first
      ∙ ap found (first_inside c.args.scope.now ls c.list-item.result c.in-len1-up.len_at_least c.list-item.is);
}
