use Rattle.element_watch.proofs.ElementFindings.{not_keyed, when_keyed}
use Rattle.element_watch.proofs.element_diffs.is_untouched.Goals as goal

pub returns-then-key_address : goal.returns-then-key_address
returns-then-key_address c = record {
  exact =
      when_keyed c.args.usage c.args.root.now c.args.selector.now c.args.notes.now c.args.path.now c.key_address.result c.requires.selects c.key_address.ensures.exact c.trace.result c.is_some.result c.if-key_address.true c.is_some.ensures
      c.trace.ensures.place_before;
}

pub returns-else-key_address : goal.returns-else-key_address
returns-else-key_address c = record {
  exact =
      not_keyed c.args.usage c.args.root.now c.args.selector.now c.args.notes.now c.args.path.now c.key_address.result c.requires.selects c.key_address.ensures.exact c.if-key_address.false;
}
