use Rattle.std.proofs.Common.{◌≡◌, ◌+◌, ◌≤◌, drop, flat_map, min}
use Rattle.xml_names.specs.Markup.{byte_len, print_attr}
use Rattle.xml_names.proofs.tag_lengths.attrs_len.Given as goal

abbrev pub invariant-loop-attr : goal.invariant-loop-attr
invariant-loop-attr l =
    record {
      fits : l.total ≤ 18446744073709551615;
      counted : min (l.total + byte_len (flat_map print_attr (drop l.attr-index l.attrs))) 18446744073709551615 ≡ min (byte_len (flat_map print_attr l.attrs)) 18446744073709551615;
    }
