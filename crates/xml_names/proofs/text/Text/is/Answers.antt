use Rattle.std.proofs.Common.{◌∙◌, ap, chars, bytes_eq}
use Rattle.xml_names.proofs.Letters.{bytes_eq-chars}
use Rattle.xml_names.proofs.text.Text.is.Goals as goal

pub returns : goal.returns
returns c = record {
  exact =
      let text = c.args.text.now in
      c.eq.ensures ∙ bytes_eq-chars c.as_str.result.now text c.as_str.utf8 c.utf8.text ∙ ap (λ cs. bytes_eq cs (chars text)) c.as_str.ensures.same_chars;
}
