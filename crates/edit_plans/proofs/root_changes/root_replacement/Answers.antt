use Rattle.std.proofs.Common.{[], inl, inr, Option, Some, None, refl, subst}
use Rattle.usage_docs.specs.declared.validation.Fault.{Fault}
use Rattle.usage_docs.specs.Validation.{HasFirstFault}
use Rattle.edit_plans.proofs.SpotLemmas.{none_by, nothing, selected_some, some_by}
use Rattle.edit_plans.proofs.root_changes.root_replacement.Goals as goal

pub returns-then-is_none : goal.returns-then-is_none
returns-then-is_none c = record {
  new_root_plan =
      inl (refl, nothing c.args.steps.now c.args.new.now c.select_steps.result c.select_steps.ensures.exact (none_by c.select_steps.result c.is_none.result c.is_none.ensures c.if-is_none.true) []);
}

pub returns-in-Some : goal.returns-in-Some
returns-in-Some c = record {
  new_root_plan =
      let lawful = selected_some c.args.steps.now c.args.new.now c.select_steps.result c.select_steps.ensures.exact (some_by c.select_steps.result c.is_none.result c.is_none.ensures c.if-is_none.false) c.requires.root_alone in
      let check_insertion = subst (λ (o : Option Fault). HasFirstFault c.args.usage c.args.new.now o) c.in-Some.is c.first_fault.ensures.has_first_fault in
      inr (lawful, (Some c.in-Some.fault, (check_insertion, refl)));
}

pub returns-in-None : goal.returns-in-None
returns-in-None c = record {
  new_root_plan =
      let lawful = selected_some c.args.steps.now c.args.new.now c.select_steps.result c.select_steps.ensures.exact (some_by c.select_steps.result c.is_none.result c.is_none.ensures c.if-is_none.false) c.requires.root_alone in
      let check_insertion = subst (λ (o : Option Fault). HasFirstFault c.args.usage c.args.new.now o) c.in-None.is c.first_fault.ensures.has_first_fault in
      inr (lawful, (None, (check_insertion, (0, refl))));
}
