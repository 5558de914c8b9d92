use Rattle.std.proofs.Common.{◌∙◌, sym, ap, encode_utf8_all, string_bytes}
use Rattle.std.proofs.lemmas.Str.{encodes-chars, IsUtf8-string_bytes}
use Rattle.tree_print.proofs.output.Output.into_bytes.Goals as goal

pub returns : goal.returns
returns c = record {
  utf8_bytes =
      let text = c.self.inside.text in
      c.owned_bytes.ensures.holds_bytes ∙ sym (encodes-chars (string_bytes text) (IsUtf8-string_bytes text)) ∙ ap encode_utf8_all c.self.view_is;
}
