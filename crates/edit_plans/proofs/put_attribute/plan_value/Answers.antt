use Rattle.std.proofs.Common.{◌≡◌, List, Some, option_map, sym, ap, ◌∙◌}
use Rattle.std.proofs.lemmas.Option.{same_Some}
use Rattle.xml_tree.specs.Tree.{Tree, at}
use Rattle.xml_tree.specs.TreeScopes.{scope_at}
use Rattle.xml_names.specs.declared.names.Decl.{Decl}
use Rattle.edit_rules.specs.AttributePuts.{written_name}
use Rattle.edit_plans.proofs.PlanTag.{selected_there, value_plan}
use Rattle.edit_plans.proofs.put_attribute.plan_value.Goals as goal

pub unreachable-requires : goal.unreachable-requires
unreachable-requires c = selected_there c.args.selector.now.steps c.args.root.now c.args.path.now c.requires.selected (c.in_default.ensures {u = tt}).exact

pub returns : goal.returns
returns c = record {
  plans_value =
      let t = c.args.root.now in
      let p = c.args.path.now in
      let uri = c.args.uri.now in
      let local = c.args.local.now in
      let element = c.in-Some.element.now in
      let there : at p t ≡ Some element = sym (c.in-Some.ensures {u = tt}).exact in
      let scope = same_Some c.in-Some-at.scope (scope_at p t) ((c.in-Some-at.ensures {u = tt}).exact ∙ ap (option_map (λ _. scope_at p t)) there) in
      let has_name = ap (λ (d : List (List Decl)). written_name d uri local element.attrs) (sym scope) ∙ sym (c.in_ok-name.ensures {u = tt}).ok ∙ c.in-Some-2.is in
      let attrs = ap (λ (x : Tree). x.attrs) (c.in_ok-tag.ensures {u = tt}).ok in
      let sought = c.with_value-sought in
      value_plan c.args.usage t element c.args.selector.now p uri local c.args.value there c.in-Some-2.name c.in_ok-tag.tag.attrs sought.result c.plan_attribute_change-found.result c.attribute_write.result has_name attrs
      sought.ensures.given_uri sought.ensures.given_local sought.ensures.given_value c.plan_attribute_change-found.ensures.new_tag_plan c.attribute_write.ensures.exact;
}
