use Rattle.std.proofs.Common.{◌≡◌, take}
use Rattle.tree_text.specs.Names.{decls_of}
use Rattle.tree_text.proofs.names.collect_decls.Given as goal

abbrev pub invariant-loop-raw_attribute : goal.invariant-loop-raw_attribute
invariant-loop-raw_attribute l = l.decls.items ≡ decls_of (take l.raw_attribute-index l.all)
