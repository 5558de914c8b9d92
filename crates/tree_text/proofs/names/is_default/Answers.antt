use Rattle.std.proofs.Common.{[], length, sym, ◌∙◌, chars, eq-eqb}
use Rattle.std.proofs.lemmas.Bool.{eqb-true}
use Rattle.std.specs.Cmp.{both_ways}
use Rattle.std.specs.Cmp.Lexicographic.{bytes_decides}
use Rattle.xml_names.proofs.Letters.{chars_empty, chars_none}
use Rattle.tree_text.proofs.names.is_default.Goals as goal

pub returns : goal.returns
returns c = record {
  exact =
      let text = c.args.prefix.now in
      let test = c.is_empty.ensures in
      both_ways _ _
      (λ yes. (bytes_decides (chars text) []).1 (chars_empty text (eqb-true (length text) 0 (sym test ∙ yes))))
      (λ none. test ∙ eq-eqb (length text) 0 (chars_none text c.utf8.prefix ((bytes_decides (chars text) []).0 none)));
}
