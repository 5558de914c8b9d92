use Rattle.std.proofs.Common.{sym}
use Rattle.xml_tokens.proofs.RawLetters.{frequent_is_raw}
use Rattle.xml_tokens.proofs.attribute_values.is_raw_char.Goals as goal

pub returns-then-is_frequent_raw_char : goal.returns-then-is_frequent_raw_char
returns-then-is_frequent_raw_char c = record { exact = sym (frequent_is_raw c.args.c (sym c.if-is_frequent_raw_char.ensures.exact)) }
