use Rattle.std.proofs.Common.{subst}
use Rattle.node_select.specs.declared.fault.SelectorFault.{SelectorFault}
use Rattle.patch_rules.specs.readers.AppliedOperations.{selector_reading}
use Rattle.patch_parse.specs.inner.SelectorErrors.{IsSelectorFault}
use Rattle.patch_parse.specs.Views.{action_view}
use Rattle.patch_parse.proofs.SelectorReading.{formless}
use Rattle.patch_parse.proofs.selectors.selector_error.Goals as goal

pub returns-in-BadSelector : goal.returns-in-BadSelector
returns-in-BadSelector c = record {
  selector_fault =
      formless c.args.here.now c.args.sel.now (action_view c.args.task.now)
      (subst (λ (f : SelectorFault). IsSelectorFault (selector_reading c.args.sel.now) c.args.here.now f) c.in-BadSelector.is c.requires);
}

pub unbound_selector_error-requires : goal.unbound_selector_error-requires
unbound_selector_error-requires c = subst (λ (f : SelectorFault). IsSelectorFault (selector_reading c.args.sel.now) c.args.here.now f) c.in-UnboundPrefix.is c.requires
