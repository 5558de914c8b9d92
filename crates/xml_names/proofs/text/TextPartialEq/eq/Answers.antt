use Rattle.std.proofs.Common.{rules}
use Rattle.xml_names.proofs.Letters.{bytes_eq-chars}
use Rattle.xml_names.proofs.text.TextPartialEq.eq.Goals as goal

pub returns : goal.returns
returns c =
    let h = bytes_eq-chars c.as_str.result.now c.as_str-2.result.now c.as_str.utf8 c.as_str-2.utf8 in
    rw (← c.as_str.ensures.same_chars, ← c.as_str-2.ensures.same_chars, ← h) (search rules)
