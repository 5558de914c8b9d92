use Rattle.std.proofs.Common.{◌≡◌, ◌++◌, drop, flat_map}
use Rattle.xml_names.specs.Markup.{value_escape}
use Rattle.reply_bodies.proofs.conflicts.push_value.Given as goal

abbrev pub invariant-loop-byte : goal.invariant-loop-byte
invariant-loop-byte l = l.document ++ flat_map value_escape (drop l.byte-index l.value) ≡ l.initial.document ++ flat_map value_escape l.value
