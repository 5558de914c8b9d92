use Rattle.std.proofs.Common.{◌≡◌, ◌++◌, drop, option_map}
use Rattle.patch_parse.specs.inner.OperationContents.{joined_text}
use Rattle.patch_parse.proofs.operation_content.joined_text.Given as goal

abbrev pub invariant-loop-node : goal.invariant-loop-node
invariant-loop-node l = option_map (λ v. l.value ++ v) (joined_text (drop l.node-index l.nodes)) ≡ joined_text l.nodes
