use Rattle.std.proofs.Common.{◌≡◌, length, chars, rules, ap, ◌∙◌}
use Rattle.std.proofs.lemmas.Str.{chars_from_encodes}
use Rattle.xml_names.proofs.text.Text.count.Goals as goal

pub returns : goal.returns
returns c = record {
  exact =
      let counted : c.count.result ≡ length (chars c.as_str.result.now) = search (rules, chars_from_encodes) in
      counted ∙ ap length c.as_str.ensures.same_chars;
}
