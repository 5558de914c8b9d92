use Rattle.std.proofs.Common.{chars, sym}
use Rattle.xml_tokens.proofs.RawLetters.{small_first}
use Rattle.xml_tokens.proofs.tokens.starts_with_name.Goals as goal

pub returns-then-is_lowercase_next : goal.returns-then-is_lowercase_next
returns-then-is_lowercase_next c = record { exact = sym (small_first (chars c.args.text.now) (sym c.if-is_lowercase_next.ensures.exact)) }
