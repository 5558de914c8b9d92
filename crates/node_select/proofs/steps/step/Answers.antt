use Rattle.std.proofs.Common.{chars, option_map}
use Rattle.xml_tokens.specs.readers.TokenViews.{raw_name_view}
use Rattle.xml_tokens.proofs.Shrinks.{more_left}
use Rattle.node_select.specs.readers.Views.{test_view}
use Rattle.node_select.proofs.Widths.{front_ends, test_ends}
use Rattle.node_select.proofs.steps.step.Goals as goal

pub count_before-front-requires : goal.count_before-front-requires
count_before-front-requires c = front_ends (chars c.args.text.now) (chars c.in_ok-name.after.now) (option_map raw_name_view c.in_ok-name.name, c.in_ok-name.position) c.in_ok-name.ensures.reads_rule

pub count_before-size-requires : goal.count_before-size-requires
count_before-size-requires c =
    let mid = chars c.in_ok-name.after.now in
    let rest = chars c.in_ok-test.rest.now in
    more_left (chars c.args.text.now) mid rest (front_ends (chars c.args.text.now) mid (option_map raw_name_view c.in_ok-name.name, c.in_ok-name.position) c.in_ok-name.ensures.reads_rule)
    (test_ends mid rest (option_map test_view c.in_ok-test.test) c.in_ok-test.ensures.reads_rule)
