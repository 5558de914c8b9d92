use Rattle.std.proofs.Common.{◌++◌, ℕ, List, chars, refl, sym, ap, ◌∙◌}
use Rattle.xml_tokens.proofs.TextBytes.{fronted_cut, fronted_chars}
use Rattle.xml_tokens.proofs.tokens.strip_bytes.Goals as goal

pub range_from-requires : goal.range_from-requires
range_from-requires c = λ _. fronted_cut c.args.text.now c.args.front.now c.utf8.text c.utf8.front (c.if-not-begins_with.ensures.front_and_rest refl)

pub returns : goal.returns
returns c = record {
  front_and_rest = fronted_chars c.args.text.now c.args.front.now c.utf8.text c.utf8.front (c.if-not-begins_with.ensures.front_and_rest refl) ∙ ap (λ (z : List ℕ). chars c.args.front.now ++ chars z) (sym c.range_from.ensures.value);
}
