use Rattle.std.proofs.Common.{chars, length, encode_utf8_all, sym}
use Rattle.std.proofs.lemmas.Bool.{and_left}
use Rattle.xml_grammar.specs.TextReading.{first_char_is, drop_while}
use Rattle.xml_names.specs.Characters.{is_space, is_name_start}
use Rattle.tree_text.specs.readers.Texts.{raw_attribute_follows, read_raw_attribute}
use Rattle.xml_tokens.proofs.Loops.{none_read}
use Rattle.tree_text.proofs.start_tags.all_raw_attributes.Goals as goal

pub returns-then-not-is_space_next : goal.returns-then-not-is_space_next
returns-then-not-is_space_next c =
    let text = chars c.args.text.now in
    let none = and_left (first_char_is is_space text) (first_char_is is_name_start (drop_while is_space text)) (sym c.if-not-is_space_next.ensures.exact) in
    record { reads_rule = rw c.clear.ensures.items (none_read raw_attribute_follows read_raw_attribute (length (encode_utf8_all text)) text none) }
