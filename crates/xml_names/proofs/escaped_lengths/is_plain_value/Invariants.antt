use Rattle.std.proofs.Common.{◌≡◌, take, flat_map}
use Rattle.xml_names.specs.Markup.{value_escape}
use Rattle.xml_names.proofs.escaped_lengths.is_plain_value.Given as goal

abbrev pub invariant-loop-byte : goal.invariant-loop-byte
invariant-loop-byte l = flat_map value_escape (take l.byte-index l.value) ≡ take l.byte-index l.value
