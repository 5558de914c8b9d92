use Rattle.std.proofs.Common.{[], ◌∷◌, ◌++◌, chars, arith}
use Rattle.xml_names.specs.Markup.{print_comment}
use Rattle.tree_print.proofs.PieceLemmas.{comment_split, opens_by, two_pushed}
use Rattle.tree_print.proofs.pieces.open_comment.Goals as goal

pub returns : goal.returns
returns c = record {
  opens =
      let x = c.args.text.now in
      let text = c.as_str.result.now in
      opens_by (print_comment x) 3 c.args.parts.now c.push-2.new.self (60 ∷ 33 ∷ 45 ∷ 45 ∷ []) (chars text ++ chars (45 ∷ 45 ∷ 62 ∷ [])) 2 (comment_split x text c.as_str.ensures.same_chars)
      (two_pushed c.push-2.new.self.text c.push.new.self.text c.args.parts.now.text (chars text) (chars (45 ∷ 45 ∷ 62 ∷ [])) c.push-2.ensures.text_before c.push.ensures.text_before)
      (omega (arith, c.push-2.ensures.more_pieces, c.push.ensures.more_pieces)) (omega arith);
}
