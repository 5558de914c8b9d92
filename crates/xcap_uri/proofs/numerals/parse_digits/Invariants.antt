use Rattle.std.proofs.Common.{◌≡◌, ◌≤◌, drop}
use Rattle.xcap_uri.specs.inner.Numerals.{number_after}
use Rattle.xcap_uri.proofs.numerals.parse_digits.Given as goal

abbrev pub invariant-loop-b : goal.invariant-loop-b
invariant-loop-b l = record { told : number_after l.number (drop l.b-index l.octets) ≡ number_after 0 l.octets; fits : l.number ≤ 18446744073709551615 }
