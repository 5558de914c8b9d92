use Rattle.std.proofs.Common.{◌≡◌, ◌++◌, drop, flat_map}
use Rattle.xml_names.specs.Markup.{text_escape}
use Rattle.reply_bodies.proofs.conflicts.push_text.Given as goal

abbrev pub invariant-loop-byte : goal.invariant-loop-byte
invariant-loop-byte l = l.document ++ flat_map text_escape (drop l.byte-index l.text) ≡ l.initial.document ++ flat_map text_escape l.text
