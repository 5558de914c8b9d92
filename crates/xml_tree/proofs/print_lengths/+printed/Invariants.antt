use Rattle.std.proofs.Common.{◌≡◌, ◌+◌, ◌≤◌, drop, min}
use Rattle.xml_tree.specs.Nodes.{content_of}
use Rattle.xml_names.specs.Markup.{byte_len}
use Rattle.xml_tree.specs.Print.{print_content}
use Rattle.xml_tree.proofs.print_lengths.+printed.Given as goal

abbrev pub invariant-printed_len-loop-node : goal.invariant-printed_len-loop-node
invariant-printed_len-loop-node l =
    record {
      fits : l.inside ≤ 18446744073709551615;
      counted : min (l.inside + byte_len (print_content (content_of (drop l.node-index l.nodes)))) 18446744073709551615
          ≡ min (byte_len (print_content (content_of l.nodes))) 18446744073709551615;
    }
