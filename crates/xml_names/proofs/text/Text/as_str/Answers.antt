use Rattle.std.proofs.Common.{sym, ap, ◌∙◌, chars, encode_utf8_all}
use Rattle.std.proofs.lemmas.Str.{encodes-chars}
use Rattle.xml_names.proofs.text.Text.as_str.Goals as goal

pub returns-clause-utf8_bytes : goal.returns-clause-utf8_bytes
returns-clause-utf8_bytes c =
    sym (encodes-chars _ c.as_str.utf8) ∙ ap (λ bs. encode_utf8_all (chars bs)) c.as_str.ensures.exact ∙ ap encode_utf8_all c.self.view_is
