use Rattle.std.proofs.Common.{◌≡◌, ◌++◌, drop}
use Rattle.usage_docs.specs.ContentTexts.{content_text}
use Rattle.list_resolve.proofs.Texts.{nodes_text}
use Rattle.list_resolve.proofs.reference.element_text.Given as goal

abbrev pub invariant-loop-node : goal.invariant-loop-node
invariant-loop-node l = l.inside ++ nodes_text (drop l.node-index l.node-items) ≡ content_text l.element.content
