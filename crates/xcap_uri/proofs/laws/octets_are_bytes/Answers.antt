use Rattle.std.proofs.Common.{arith}
use Rattle.std.proofs.lemmas.List.Elements.{All-from_get_or}
use Rattle.xcap_uri.specs.inner.OctetTexts.{IsOctet}
use Rattle.xcap_uri.proofs.laws.octets_are_bytes.Goals as goal

pub returns : goal.returns
returns c = record { all_octets = All-from_get_or IsOctet c.args.octets.now 0 (λ i within. omega (arith, c.type_inv.octets i)) }
