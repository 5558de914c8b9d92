use Rattle.std.proofs.Common.{◌≡◌, drop}
use Rattle.xcap_uri.specs.Delimiters.{rest_after_front}
use Rattle.xcap_uri.proofs.query.strip_front.Given as goal

abbrev pub invariant-loop-expected : goal.invariant-loop-expected
invariant-loop-expected l = rest_after_front (drop l.expected-index l.word) l.rest ≡ rest_after_front l.word l.text
