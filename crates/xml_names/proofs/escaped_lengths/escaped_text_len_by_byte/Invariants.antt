use Rattle.std.proofs.Common.{◌≡◌, ◌+◌, ◌≤◌, drop, flat_map, length, min}
use Rattle.xml_names.specs.Markup.{text_escape}
use Rattle.xml_names.proofs.escaped_lengths.escaped_text_len_by_byte.Given as goal

abbrev pub invariant-loop-byte : goal.invariant-loop-byte
invariant-loop-byte l =
    record {
      fits : l.total ≤ 18446744073709551615;
      counted : min (l.total + length (flat_map text_escape (drop l.byte-index l.text))) 18446744073709551615 ≡ min (length (flat_map text_escape l.text)) 18446744073709551615;
    }
