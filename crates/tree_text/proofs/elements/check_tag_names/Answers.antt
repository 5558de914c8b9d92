use Rattle.std.proofs.Common.{◌<◌, ◌^◌, chars, length, rules, arith}
use Rattle.tree_text.specs.readers.Views.{tag_view}
use Rattle.xml_tokens.proofs.NameLemmas.{parts_size}
use Rattle.xml_tokens.proofs.TextBytes.{chars_le}
use Rattle.tree_text.proofs.TagSizes.{tag_room}
use Rattle.tree_text.proofs.elements.check_tag_names.Goals as goal

pub first_tag_fault-requires-clause-fits : goal.first_tag_fault-requires-clause-fits
first_tag_fault-requires-clause-fits c =
    let text = c.args.text.now in
    let size : length text < 2 ^ 63 = first_of (search rules, omega (arith, c.well_formed)) in
    let name = c.args.start_tag.now.written in
    omega (arith, tag_room (chars text) (chars c.args.start_tag.now.after.now) (tag_view (chars text) c.args.start_tag.now c.args.raw_attribute.now) c.requires.tag_read, parts_size (chars name.prefix.now) (chars name.local.now), chars_le text c.utf8.text, size)
