use Rattle.std.proofs.Common.{ℕ, List, subst, sym, ap, map}
use Rattle.std.proofs.lemmas.Result.{err_from_is_err_and}
use Rattle.node_select.specs.declared.selector.Step.{Step}
use Rattle.node_select.specs.declared.name_resolution.Unresolved.{Unresolved}
use Rattle.node_select.specs.readers.NameResolution.{IsUnresolvedAt}
use Rattle.node_select.specs.readers.RawSelectors.{RawStep, unbound_patch_end, unbound_in_steps}
use Rattle.node_select.specs.readers.Views.{patch_end_view, step_view}
use Rattle.node_select.proofs.UnboundPlaces.{steps_fail, end_fails}
use Rattle.node_select.proofs.selector_reader.resolve_patch_selector.Goals as goal

pub returns-in_err-steps : goal.returns-in_err-steps
returns-in_err-steps c = record {
  means_patch_selector =
      let p = err_from_is_err_and c.from_residual.result c.from_residual.ensures.1 in
      let b = c.indexed_decls-indexed_decls.result in
      let end = unbound_patch_end b (patch_end_view c.args.raw.now.end) in
      let why : Unresolved = c.in_err-steps.field-0.0 in
      rw (p.1, p.2, sym c.indexed_decls-indexed_decls.ensures.declares_bindings) (subst (λ (ss : List RawStep). IsUnresolvedAt (unbound_in_steps b c.args.raw.now.slash ss end) why) (ap (map step_view) c.deref.ensures.value)
      (steps_fail b c.args.raw.now.slash (map step_view c.deref.result.now) end c.in_err-steps.field-0.0 (c.in_err-steps.ensures {u = tt}).means_steps));
}

pub returns-in_err-end : goal.returns-in_err-end
returns-in_err-end c = record {
  means_patch_selector =
      let p = err_from_is_err_and c.from_residual-in_err-end.result c.from_residual-in_err-end.ensures.1 in
      let b = c.indexed_decls-indexed_decls.result in
      let end = unbound_patch_end b (patch_end_view c.args.raw.now.end) in
      let why : Unresolved = c.in_err-end.field-0.0 in
      let done = (c.in_ok-steps.ensures {u = tt}).means_steps in
      rw (p.1, p.2, sym c.indexed_decls-indexed_decls.ensures.declares_bindings) (subst (λ (ss : List RawStep). IsUnresolvedAt (unbound_in_steps b c.args.raw.now.slash ss end) why) (ap (map step_view) c.deref.ensures.value)
      (end_fails b c.args.raw.now.slash c.in_ok-steps.at (map step_view c.deref.result.now) end c.in_err-end.field-0.0 done.0 (ap (λ (z : List Step × ℕ). z.1) done.1) (c.in_err-end.ensures {u = tt}).means_patch_end));
}
