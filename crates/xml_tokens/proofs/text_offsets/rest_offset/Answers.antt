use Rattle.std.proofs.Common.{◌≡◌, length, chars, encode_utf8_all, ap, arith}
use Rattle.std.proofs.lemmas.Str.{encodes-chars}
use Rattle.xml_tokens.proofs.text_offsets.rest_offset.Goals as goal

pub returns : goal.returns
returns c = record { exact = let same : length (encode_utf8_all (chars c.args.rest.now)) ≡ length c.args.rest.now = ap length (encodes-chars c.args.rest.now c.utf8.rest) in omega (arith, same, c.saturating_sub.ensures) }
