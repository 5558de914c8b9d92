use Rattle.std.proofs.Common.{[], ◌∷◌, ◌++◌, chars, arith}
use Rattle.xml_names.specs.Markup.{end_tag_text, print_name}
use Rattle.tree_print.proofs.PieceLemmas.{opens_by, tag_split, two_pushed}
use Rattle.tree_print.proofs.pieces.open_end_tag.Goals as goal

pub returns : goal.returns
returns c = record {
  opens =
      opens_by (end_tag_text c.args.name.now) 5 c.args.parts.now c.push-2.new.self (60 ∷ 47 ∷ []) (print_name c.args.name.now ++ chars (62 ∷ [])) 4 (tag_split c.args.name.now)
      (two_pushed c.push-2.new.self.text c.push.new.self.text c.args.parts.now.text (print_name c.args.name.now) (chars (62 ∷ [])) c.push-2.ensures.text_before c.push.ensures.text_before)
      (omega (arith, c.push-2.ensures.more_pieces, c.push.ensures.more_pieces)) (omega arith);
}
