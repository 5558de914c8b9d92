use Rattle.std.proofs.Common.{length, ap, arith}
use Rattle.xml_tokens.proofs.raw_name.match_name.Goals as goal

pub match_prefixed_name-requires : goal.match_prefixed_name-requires
match_prefixed_name-requires c = omega (arith, ap length c.in-Some.ensures.first_and_rest)
