use Rattle.std.proofs.Common.{◌≡◌, ℕ, List, chars, flat_map, length, refl, sym, ap, ◌∙◌, arith}
use Rattle.tree_print.specs.inner.Escapes.{escaped_char}
use Rattle.tree_print.specs.inner.Parts.{text_pieces}
use Rattle.tree_print.proofs.PieceLemmas.{opens_whole}
use Rattle.tree_print.proofs.EscapeLemmas.{plain_chars}
use Rattle.tree_print.proofs.pieces.open_text.Goals as goal

pub returns-then-is_plain : goal.returns-then-is_plain
returns-then-is_plain c = record {
  opens =
      let text = c.args.text.now in
      let f = flat_map (escaped_char c.args.place) in
      let same = c.as_bytes.ensures.value in
      let plain : f text ≡ text = ap f (sym same) ∙ c.if-is_plain.ensures.plain_unescaped refl ∙ same in
      opens_whole (f (chars text)) (text_pieces (length text)) c.args.parts.now text (plain_chars c.args.place text c.utf8.text plain) (omega arith);
}
