use Rattle.std.proofs.Common.{All, ap, sym, ◌∙◌, subst}
use Rattle.std.specs.Str.{IsUtf8, chars}
use Rattle.xcap_uri.specs.inner.OctetTexts.{IsOctet}
use Rattle.xcap_uri.proofs.laws.text_is_decoded.Goals as goal

pub returns : goal.returns
returns c = record {
  spelled_text =
      record {
        utf8 = subst IsUtf8 c.as_str.ensures.utf8_bytes c.as_str.utf8;
        octets = subst (All IsOctet) (c.as_bytes.ensures.value ∙ c.as_str.ensures.utf8_bytes) c.octets_are_bytes.ensures.all_octets;
        letters = ap chars (sym c.as_str.ensures.utf8_bytes) ∙ c.as_str.ensures.same_chars;
      };
}
