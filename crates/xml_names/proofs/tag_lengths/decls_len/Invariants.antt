use Rattle.std.proofs.Common.{◌≡◌, ◌+◌, ◌≤◌, drop, flat_map, min}
use Rattle.xml_names.specs.Markup.{byte_len, print_decl}
use Rattle.xml_names.proofs.tag_lengths.decls_len.Given as goal

abbrev pub invariant-loop-decl : goal.invariant-loop-decl
invariant-loop-decl l =
    record {
      fits : l.total ≤ 18446744073709551615;
      counted : min (l.total + byte_len (flat_map print_decl (drop l.decl-index l.decls))) 18446744073709551615 ≡ min (byte_len (flat_map print_decl l.decls)) 18446744073709551615;
    }
