use Rattle.std.proofs.Common.{◌≡◌, drop}
use Rattle.std.specs.List.{list_all}
use Rattle.patch_rules.specs.PatchOperations.{names_agree}
use Rattle.patch_parse.specs.inner.OperationContents.{node_names_agree}
use Rattle.patch_parse.proofs.expanded_names.+alike.Given as goal

abbrev pub invariant-content_names_agree-loop-node : goal.invariant-content_names_agree-loop-node
invariant-content_names_agree-loop-node l = list_all (node_names_agree l.c l.d) (drop l.node-index l.node-items) ≡ names_agree l.c l.d l.element.content
