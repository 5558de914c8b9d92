use Rattle.std.proofs.Common.{Some, sym, subst}
use Rattle.xml_tree.specs.TreeScopes.{scope_at}
use Rattle.node_select.specs.declared.selector.PatchEnd.{PatchEnd}
use Rattle.patch_rules.specs.PatchOperations.{locate_end}
use Rattle.patch_apply.specs.inner.LocationViews.{LocatesAs}
use Rattle.patch_apply.specs.declared.locations.Location.TheVariants.{AtElement, AtText}
use Rattle.patch_apply.proofs.LocationLemmas.{element_target, text_spot}
use Rattle.patch_apply.proofs.locations.locate_end.Goals as goal

pub returns-in-Element : goal.returns-in-Element
returns-in-Element c = record {
  selected_location =
      let t = c.args.tree.now in let e = c.args.element.now in let p = c.args.path in
      subst (λ (end : PatchEnd). LocatesAs t (locate_end end (scope_at p t) p e) (Some (AtElement p))) (sym c.in-Element.is) (element_target t e p c.requires);
}

pub returns-in_ok-place-in-Chars : goal.returns-in_ok-place-in-Chars
returns-in_ok-place-in-Chars c = record {
  selected_location =
      let t = c.args.tree.now in let e = c.args.element.now in let p = c.args.path in
      subst (λ (end : PatchEnd). LocatesAs t (locate_end end (scope_at p t) p e) (Some (AtText p c.in_ok-place-in-Chars.place))) (sym c.in-Chars.is)
      (text_spot t e p c.requires c.in-Chars.position c.nodes.result.now c.nodes.ensures.content_nodes c.in_ok-place-in-Chars.place (c.in_ok-place-in-Chars.ensures {u = tt}).number_of_text (c.in_ok-place-in-Chars.ensures {u = tt}).lies_within);
}
