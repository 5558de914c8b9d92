use Rattle.std.proofs.Common.{◌≡◌, take}
use Rattle.xcap_uri.proofs.root.ascii_text.Given as goal

abbrev pub invariant-loop-b : goal.invariant-loop-b
invariant-loop-b l = l.text ≡ take l.b-index l.octets
