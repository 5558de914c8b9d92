use Rattle.std.proofs.Common.{◌∙◌}
use Rattle.element_watch.proofs.BuiltElements.{told_is}
use Rattle.element_watch.proofs.element_states.new_existence_element.Goals as goal

pub returns : goal.returns
returns c = record {
  ok =
      told_is c.args.prefix.now c.args.sel c.in_ok-from.field-0 c.args.exists c.in_ok-made.made c.push_plain_attr.new.element c.push_plain_attr-2.new.element c.in_ok-made.ensures.ok (c.in_ok-from.ensures.same_chars ∙ c.boolean_text.ensures.exact)
      c.in_ok-push_plain_attr.ensures.appended c.in_ok-push_plain_attr-2.ensures.appended;
}
