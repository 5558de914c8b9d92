use Rattle.std.proofs.Common.{rules, length, sym, ap}
use Rattle.std.proofs.lemmas.Str.{chars-IsAscii, chars_from_encodes}
use Rattle.xml_grammar.proofs.cursor.count.Goals as goal

pub returns-then-is_ascii : goal.returns-then-is_ascii
returns-then-is_ascii c = record { exact = ap length (sym (chars-IsAscii c.args.text.now c.if-is_ascii.ensures.cases)) }

pub returns : goal.returns
returns c = record { exact = search (rules, chars_from_encodes) }
