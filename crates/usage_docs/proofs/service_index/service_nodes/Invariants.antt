use Rattle.std.proofs.Common.{◌≡◌, ◌++◌, drop, map}
use Rattle.xml_tree.specs.declared.tree.Node.TheVariants.{Elem}
use Rattle.usage_docs.specs.Services.{service_elements}
use Rattle.usage_docs.specs.readers.ServiceNodes.{listed_nodes}
use Rattle.usage_docs.proofs.service_index.service_nodes.Given as goal

abbrev pub invariant-loop-node : goal.invariant-loop-node
invariant-loop-node l = l.made.items ++ listed_nodes l.scope (drop l.node-index l.node-items) ≡ map Elem (service_elements l.root)
