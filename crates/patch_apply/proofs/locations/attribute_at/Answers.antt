use Rattle.std.proofs.Common.{◌≡◌, None, Some, sym, ◌∙◌}
use Rattle.std.specs.List.{position}
use Rattle.xml_tree.specs.TreeScopes.{scope_at}
use Rattle.node_select.specs.Selection.{is_attr_named}
use Rattle.patch_apply.proofs.LocationLemmas.{attr_spot, no_attr, scope_is}
use Rattle.patch_apply.proofs.locations.attribute_at.Goals as goal

pub returns-in_err-place : goal.returns-in_err-place
returns-in_err-place c = record {
  selected_location =
      let t = c.args.tree.now in let e = c.args.element.now in let p = c.args.path in
      let scope = scope_is t e p c.requires c.in_ok-scope.scope (c.in_ok-scope.ensures {u = tt}).exact in
      let f = is_attr_named (scope_at p t) c.args.uri.now c.args.local.now in
      let none : None ≡ position f e.attrs =
      sym (c.in_err-place.was {u = tt}) ∙ c.find_attr.ensures.exact
      ∙ (λ i. position (is_attr_named (scope i) (c.as_str.ensures.same_chars i) (c.as_str-2.ensures.same_chars i)) e.attrs) in
      rw c.from_residual-in_err-place.ensures (no_attr t e p c.requires f none);
}

pub returns : goal.returns
returns c = record {
  selected_location =
      let t = c.args.tree.now in let e = c.args.element.now in let p = c.args.path in
      let scope = scope_is t e p c.requires c.in_ok-scope.scope (c.in_ok-scope.ensures {u = tt}).exact in
      let f = is_attr_named (scope_at p t) c.args.uri.now c.args.local.now in
      let first : Some c.in_ok-place.place ≡ position f e.attrs =
      sym (c.in_ok-place.was {u = tt}) ∙ c.find_attr.ensures.exact
      ∙ (λ i. position (is_attr_named (scope i) (c.as_str.ensures.same_chars i) (c.as_str-2.ensures.same_chars i)) e.attrs) in
      attr_spot t e p c.requires f c.in_ok-place.place first;
}
