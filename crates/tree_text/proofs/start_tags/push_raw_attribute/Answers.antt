use Rattle.std.proofs.Common.{chars}
use Rattle.tree_text.proofs.TagSizes.{attribute_ends}
use Rattle.tree_text.proofs.start_tags.push_raw_attribute.Goals as goal

pub of_text_before-size-requires : goal.of_text_before-size-requires
of_text_before-size-requires c = attribute_ends (chars c.args.from.now) (chars c.in_ok-name.rest.now) (c.in_ok-name.name, c.in_ok-name.value) c.in_ok-name.ensures.reads_rule
