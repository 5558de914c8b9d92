use Rattle.std.proofs.Common.{◌≡◌, None, Some, refl, sym, ap, ◌∙◌}
use Rattle.xml_tree.specs.Tree.{Tree, at}
use Rattle.edit_plans.specs.declared.child_attributes.AttributeEdit.{AttributeEdit}
use Rattle.edit_plans.proofs.DropLemmas.{attr_found, dropped_by, place_is, scope_is}
use Rattle.edit_plans.proofs.PlanTag.{drop_nothing, selected_there}
use Rattle.edit_plans.proofs.TagLemmas.{none_at_position}
use Rattle.xml_tree.specs.TreeScopes.{scope_at}
use Rattle.xml_names.specs.declared.names.Attr.{Attr}
use Rattle.node_select.specs.Selection.{is_attr_named}
use Rattle.edit_plans.proofs.delete_node.plan_drop.Goals as goal

pub unreachable-requires : goal.unreachable-requires
unreachable-requires c = selected_there c.args.selector.now.steps c.args.root.now c.args.path c.requires.selected (c.in_default.ensures {u = tt}).exact

pub returns-in_default-find_attr : goal.returns-in_default-find_attr
returns-in_default-find_attr c = record {
  plans_drop =
      let t = c.args.root.now in
      let e = c.in-Some.element.now in
      let p = c.args.path in
      let uri = c.args.uri.now in
      let local = c.args.local.now in
      let there : at p t ≡ Some e = sym (c.in-Some.ensures {u = tt}).exact in
      let in_scope = scope_is t e p c.in-Some-at.scope there (c.in-Some-at.ensures {u = tt}).exact in
      let place = place_is t e p c.in-Some-at.scope _ uri _ local c.find_attr.result in_scope c.as_str.ensures.same_chars c.as_str-2.ensures.same_chars
      c.find_attr.ensures.exact in
      let none = none_at_position (is_attr_named (scope_at p t) uri local) e.attrs (sym place ∙ c.in_default-find_attr.is) in
      drop_nothing c.args.usage t e c.args.selector.now p uri local c.requires.selector_end c.requires.selected there none;
}

pub returns : goal.returns
returns c = record {
  plans_drop =
      let t = c.args.root.now in
      let e = c.in-Some.element.now in
      let p = c.args.path in
      let uri = c.args.uri.now in
      let local = c.args.local.now in
      let attr = c.index-attrs-place.result in
      let tag = c.in_ok-tag.tag in
      let there : at p t ≡ Some e = sym (c.in-Some.ensures {u = tt}).exact in
      let in_scope = scope_is t e p c.in-Some-at.scope there (c.in-Some-at.ensures {u = tt}).exact in
      let place = place_is t e p c.in-Some-at.scope _ uri _ local c.find_attr.result in_scope c.as_str.ensures.same_chars c.as_str-2.ensures.same_chars
      c.find_attr.ensures.exact in
      let that = attr_found t e p uri local c.in-Some-find_attr.place attr c.attrs.result.now c.attrs.ensures.exact c.index-attrs-place.is
      (sym place ∙ c.in-Some-find_attr.is) in
      let named = (c.in_ok-name.ensures {u = tt}).equal_copy ∙ ap (λ (x : Attr). x.name) (sym c.index-attrs-place.is) in
      let without = ap (λ (x : Tree). x.attrs) (c.in_ok-tag.ensures {u = tt}).ok in
      let sought : AttributeEdit = record { uri = c.args.uri; local = c.args.local; value = None } in
      dropped_by c.args.usage t e c.args.selector.now p uri local attr c.in_ok-name.name tag.attrs sought c.plan_attribute_change-found.result c.attribute_removal.result
      c.requires.selector_end c.requires.selected there that named without refl c.plan_attribute_change-found.ensures.new_tag_plan c.attribute_removal.ensures.exact;
}
