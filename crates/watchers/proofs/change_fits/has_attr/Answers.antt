use Rattle.std.proofs.Common.{sym, ap, ◌∙◌}
use Rattle.std.specs.List.{list_any}
use Rattle.xml_names.specs.Attributes.{has_qname as is_named}
use Rattle.watchers.proofs.AttributeLemmas.{names_there}
use Rattle.watchers.proofs.change_fits.has_attr.Goals as goal

pub returns-in-Some : goal.returns-in-Some
returns-in-Some c = record {
  exact =
      let there = names_there c.args.path.now c.args.name.now c.args.root.now c.in-Some.element.now c.has_attr_named.result (sym c.in-Some.ensures.exact)
      (c.has_attr_named.ensures.exact ∙ ap (λ attrs. list_any (is_named c.args.name.now) attrs) c.attrs.ensures.exact) in
      (λ h. sym there ∙ h, λ h. there ∙ h);
}
