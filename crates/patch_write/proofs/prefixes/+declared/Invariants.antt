use Rattle.std.proofs.Common.{◌++◌, flat_map, take}
use Rattle.patch_rules.specs.inner.DeclaredPrefixes.{declared_prefixes}
use Rattle.patch_write.specs.inner.DeclaredPrefixes.{GainsPrefixes, node_prefixes}
use Rattle.patch_write.proofs.prefixes.+declared.Given as goal

abbrev pub invariant-add_element-loop-node : goal.invariant-add_element-loop-node
invariant-add_element-loop-node l = GainsPrefixes (declared_prefixes l.element.decls ++ flat_map node_prefixes (take l.node-index l.nodes)) l.fn.seen l.seen
