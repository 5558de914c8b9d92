use Rattle.std.proofs.Common.{◌≡◌, ◌+◌, ◌≤◌, drop, map, min}
use Rattle.xml_tree.specs.declared.tree.Node.TheVariants.{Elem}
use Rattle.usage_docs.specs.Services.{service_elements}
use Rattle.usage_docs.specs.readers.ServiceNodes.{elems_len, listed_nodes}
use Rattle.usage_docs.proofs.service_lengths.nodes_len.Given as goal

abbrev pub invariant-loop-node : goal.invariant-loop-node
invariant-loop-node l =
    record {
      fits : l.total ≤ 18446744073709551615;
      counted : min (l.total + elems_len (listed_nodes l.scope (drop l.node-index l.node-items))) 18446744073709551615 ≡ min (elems_len (map Elem (service_elements l.root))) 18446744073709551615;
    }
