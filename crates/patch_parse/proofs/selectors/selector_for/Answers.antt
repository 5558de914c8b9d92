use Rattle.std.proofs.Common.{chars, sym, ap, ◌∙◌}
use Rattle.node_select.specs.Faults.{IsPatchSelectorAnswer}
use Rattle.patch_rules.specs.PatchOperations.{accepts_form}
use Rattle.patch_parse.specs.inner.SelectorErrors.{is_type_prefix_bound_by}
use Rattle.patch_parse.specs.Views.{action_view}
use Rattle.patch_parse.proofs.SelectorReading.{fault_answered, found, refused_so, selecting, type_is_bound, unsuited, untyped}
use Rattle.patch_parse.proofs.selectors.selector_for.Goals as goal

pub returns-then-not-accepts_form : goal.returns-then-not-accepts_form
returns-then-not-accepts_form c = record {
  grammar_answer =
      let here = c.args.here.now in let sel = c.args.sel.now in let task = action_view c.args.task.now in
      let x = found here c.in_ok-bindings.bindings (chars c.default_uri.result.now) c.as_str.result.now sel c.in_ok-bindings.ensures.ok c.default_uri.ensures.default_namespace c.as_str.ensures.same_chars c.in-Ok.selector
      c.in-Ok.ensures.grammar_answer in
      unsuited here sel task x.reading x.form (ap (accepts_form task) (sym (c.form_of.ensures.exact ∙ x.ends)) ∙ sym c.accepts_form.ensures.exact ∙ c.if-not-accepts_form.true);
}

pub returns-then-not-is_type_prefix_bound : goal.returns-then-not-is_type_prefix_bound
returns-then-not-is_type_prefix_bound c = record {
  grammar_answer =
      let here = c.args.here.now in let sel = c.args.sel.now in let task = action_view c.args.task.now in
      let x = found here c.in_ok-bindings.bindings (chars c.default_uri.result.now) c.as_str.result.now sel c.in_ok-bindings.ensures.ok c.default_uri.ensures.default_namespace c.as_str.ensures.same_chars c.in-Ok.selector
      c.in-Ok.ensures.grammar_answer in
      untyped here sel task x.reading c.in-Ok.selector x.form (ap (accepts_form task) (sym (c.form_of.ensures.exact ∙ x.ends)) ∙ sym c.accepts_form.ensures.exact ∙ c.if-not-accepts_form.false) x.means (sym (type_is_bound here task) ∙ ((λ i. is_type_prefix_bound_by (sym c.in_ok-bindings.ensures.ok i) task) ∙ sym c.is_type_prefix_bound.ensures.exact ∙ c.if-not-is_type_prefix_bound.true));
}

pub returns-in-Ok : goal.returns-in-Ok
returns-in-Ok c = record {
  grammar_answer =
      let here = c.args.here.now in let sel = c.args.sel.now in let task = action_view c.args.task.now in
      let x = found here c.in_ok-bindings.bindings (chars c.default_uri.result.now) c.as_str.result.now sel c.in_ok-bindings.ensures.ok c.default_uri.ensures.default_namespace c.as_str.ensures.same_chars c.in-Ok.selector
      c.in-Ok.ensures.grammar_answer in
      selecting here sel task x.reading c.in-Ok.selector x.form (ap (accepts_form task) (sym (c.form_of.ensures.exact ∙ x.ends)) ∙ sym c.accepts_form.ensures.exact ∙ c.if-not-accepts_form.false) x.means (sym (type_is_bound here task) ∙ ((λ i. is_type_prefix_bound_by (sym c.in_ok-bindings.ensures.ok i) task) ∙ sym c.is_type_prefix_bound.ensures.exact ∙ c.if-not-is_type_prefix_bound.false));
}

pub selector_error-requires : goal.selector_error-requires
selector_error-requires c =
    refused_so c.args.here.now c.in_ok-bindings.bindings (chars c.default_uri.result.now) c.as_str.result.now c.args.sel.now c.in_ok-bindings.ensures.ok c.default_uri.ensures.default_namespace c.as_str.ensures.same_chars
    c.in-Err-Fault.fault
    (
    fault_answered (IsPatchSelectorAnswer c.in_ok-bindings.bindings (chars c.default_uri.result.now) c.as_str.result.now) _ c.in-Err-Fault.fault c.in-Err-Fault.field-0-is
    c.in-Err-Fault.ensures.grammar_answer
    )
