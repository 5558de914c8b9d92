use Rattle.std.proofs.Common.{◌≡◌, take}
use Rattle.http_wire.proofs.request.token_text.Given as goal

abbrev pub invariant-token : goal.invariant-token
invariant-token l = l.text ≡ take l.byte-index l.token
