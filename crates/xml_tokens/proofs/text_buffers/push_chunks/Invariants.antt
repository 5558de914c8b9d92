use Rattle.std.proofs.Common.{◌≡◌, ◌++◌, length}
use Rattle.xml_tokens.proofs.text_buffers.push_chunks.Given as goal

abbrev pub invariant-loop-rest : goal.invariant-loop-rest
invariant-loop-rest l = l.text ++ l.rest ≡ l.initial.text ++ l.chars

abbrev pub decreases-loop-rest : goal.decreases-loop-rest
decreases-loop-rest l = length l.rest
