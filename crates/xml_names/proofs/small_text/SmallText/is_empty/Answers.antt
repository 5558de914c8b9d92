use Rattle.std.proofs.Common.{length, sym, ◌∙◌, eq-eqb}
use Rattle.std.proofs.lemmas.Bool.{eqb-true}
use Rattle.xml_names.proofs.Letters.{chars_empty, chars_none}
use Rattle.xml_names.proofs.small_text.SmallText.is_empty.Goals as goal

pub returns : goal.returns
returns g c = record {
  exact =
      let text = c.as_str.result.now in
      let test = c.is_empty.ensures in (
        λ yes. sym c.as_str.ensures.same_chars ∙ chars_empty text (eqb-true (length text) 0 (sym test ∙ yes)),
        λ none. test ∙ eq-eqb (length text) 0 (chars_none text c.as_str.utf8 (c.as_str.ensures.same_chars ∙ none)),
      );
}
