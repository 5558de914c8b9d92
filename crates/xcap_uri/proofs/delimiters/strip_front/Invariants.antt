use Rattle.std.proofs.Common.{◌≡◌, drop}
use Rattle.xcap_uri.specs.Delimiters.{rest_after_front}
use Rattle.xcap_uri.proofs.delimiters.strip_front.Given as goal

abbrev pub invariant-loop-expected : goal.invariant-loop-expected
invariant-loop-expected l = rest_after_front (drop l.expected-index l.front) l.rest ≡ rest_after_front l.front l.text
