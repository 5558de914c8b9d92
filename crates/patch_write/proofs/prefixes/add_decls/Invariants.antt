use Rattle.std.proofs.Common.{flat_map, take}
use Rattle.patch_write.specs.inner.DeclaredPrefixes.{GainsPrefixes}
use Rattle.patch_write.proofs.PrefixSets.{prefix_alone}
use Rattle.patch_write.proofs.prefixes.add_decls.Given as goal

abbrev pub invariant-loop-decl : goal.invariant-loop-decl
invariant-loop-decl l = GainsPrefixes (flat_map prefix_alone (take l.decl-index l.decls)) l.initial.seen l.seen
