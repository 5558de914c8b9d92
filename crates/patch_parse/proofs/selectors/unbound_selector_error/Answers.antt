use Rattle.std.proofs.Common.{Err, sym, ap, ◌∙◌}
use Rattle.xml_grammar.specs.readers.RuleReaders.{read_whole_text}
use Rattle.node_select.specs.readers.Selectors.{read_patch_selector}
use Rattle.patch_parse.specs.Views.{action_view}
use Rattle.patch_parse.proofs.SelectorReading.{meaningless_so, named_form, no_named_form}
use Rattle.patch_parse.proofs.selectors.unbound_selector_error.Goals as goal

pub returns-in-Ok-None : goal.returns-in-Ok-None
returns-in-Ok-None c = record {
  selector_fault = absurd (no_named_form c.args.here.now (read_whole_text read_patch_selector c.args.sel.now) c.requires (sym c.in-Ok-None.ensures.ok ∙ c.in-Ok-None.field-0-is));
}

pub returns-in-Ok-Some : goal.returns-in-Ok-Some
returns-in-Ok-Some c = record {
  selector_fault =
      let here = c.args.here.now in let sel = c.args.sel.now in let task = action_view c.args.task.now in
      let x = named_form here (read_whole_text read_patch_selector sel) c.in-Ok-Some.form c.requires (sym c.in-Ok-Some.field-0-is ∙ c.in-Ok-Some.ensures.ok) in
      meaningless_so here sel task x.reading c.in-Ok-Some.form x.form x.is x.means ∙ ap (λ w. Err w) (sym c.unbound_prefix_error.ensures.end_before_prefixes);
}
