use Rattle.std.proofs.Common.{rules, chars, sym, ◌∙◌}
use Rattle.xml_tokens.specs.readers.Classes.{class_contains}
use Rattle.xml_tokens.proofs.TextBytes.{run_goes_on, run_stops, run_over}
use Rattle.xml_tokens.proofs.character_classes.skip_class_by_character.Goals as goal

pub each-preserved : goal.each-preserved
each-preserved c = record {
  utf8 = search rules;
  left = c.each.invariant.left ∙ run_goes_on (class_contains c.args.class) (chars c.each.rest.now) (chars c.in-Some.after.now) c.in-Some.c c.in-Some.ensures.first_and_rest (sym c.if-not-class_contains.ensures.exact);
}

pub returns-then-not-class_contains : goal.returns-then-not-class_contains
returns-then-not-class_contains c = record {
  exact = sym (c.each.invariant.left ∙ run_stops (class_contains c.args.class) (chars c.each.rest.now) (chars c.in-Some.after.now) c.in-Some.c c.in-Some.ensures.first_and_rest (sym c.if-not-class_contains.ensures.exact));
}

pub returns : goal.returns
returns c = record { exact = sym (c.each.invariant.left ∙ run_over (class_contains c.args.class) (chars c.each.rest.now) c.in_default.ensures.none_is_empty) }
