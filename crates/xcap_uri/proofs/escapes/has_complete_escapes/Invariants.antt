use Rattle.std.proofs.Common.{◌≡◌, length}
use Rattle.xcap_uri.specs.Escapes.{has_complete_escapes}
use Rattle.xcap_uri.proofs.escapes.has_complete_escapes.Given as goal

abbrev pub invariant-loop-rest : goal.invariant-loop-rest
invariant-loop-rest l = has_complete_escapes l.rest ≡ has_complete_escapes l.part

abbrev pub decreases-loop-rest : goal.decreases-loop-rest
decreases-loop-rest l = length l.rest
