use Rattle.std.proofs.Common.{◌≡◌, ◌+◌, ◌≤◌, drop, flat_map, length, min}
use Rattle.xml_names.specs.Markup.{value_escape}
use Rattle.xml_names.proofs.escaped_lengths.escaped_value_len_by_byte.Given as goal

abbrev pub invariant-loop-byte : goal.invariant-loop-byte
invariant-loop-byte l =
    record {
      fits : l.total ≤ 18446744073709551615;
      counted : min (l.total + length (flat_map value_escape (drop l.byte-index l.value))) 18446744073709551615 ≡ min (length (flat_map value_escape l.value)) 18446744073709551615;
    }
