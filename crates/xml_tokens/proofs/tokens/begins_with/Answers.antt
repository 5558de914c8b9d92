use Rattle.std.proofs.lemmas.Bool.Decides.{Decides-eqb}
use Rattle.std.proofs.lemmas.Slice.Eq.{starts_is}
use Rattle.xml_tokens.proofs.tokens.begins_with.Goals as goal

pub returns : goal.returns
returns c = record {
  front_and_rest = λ yes. rw (c.as_bytes.ensures.value, c.as_bytes-2.ensures.value) at ((starts_is Decides-eqb c.as_bytes.result.now c.as_bytes-2.result.now c.starts_with.result c.starts_with.ensures.value).0 yes);
}
