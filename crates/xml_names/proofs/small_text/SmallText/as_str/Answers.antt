use Rattle.std.proofs.Common.{sym, ap, ◌∙◌, encode_utf8_all}
use Rattle.std.proofs.lemmas.Str.{encodes-chars}
use Rattle.xml_names.proofs.small_text.SmallText.as_str.Goals as goal

pub returns-clause-utf8_bytes : goal.returns-clause-utf8_bytes
returns-clause-utf8_bytes g c =
    sym (encodes-chars _ c.as_str.utf8) ∙ ap encode_utf8_all (c.as_str.ensures.exact ∙ c.self.view_is)
