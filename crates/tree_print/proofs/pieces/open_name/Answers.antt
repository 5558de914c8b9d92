use Rattle.std.proofs.Common.{[], ◌∷◌, ◌++◌, chars, sym, ◌∙◌, arith}
use Rattle.xml_names.specs.Markup.{print_name}
use Rattle.tree_print.proofs.PieceLemmas.{name_bare, name_split, opens_by, opens_whole, two_pushed}
use Rattle.tree_print.proofs.pieces.open_name.Goals as goal

pub returns-then-is_empty_prefix : goal.returns-then-is_empty_prefix
returns-then-is_empty_prefix c = record {
  opens =
      opens_whole (print_name c.args.name.now) 3 c.args.parts.now c.as_str.result.now (name_bare c.args.name.now c.as_str.result.now (sym c.is_empty_prefix.ensures.exact ∙ c.if-is_empty_prefix.true) c.as_str.ensures.same_chars) (omega arith);
}

pub returns : goal.returns
returns c = record {
  opens =
      opens_by (print_name c.args.name.now) 3 c.args.parts.now c.push-2.new.self c.as_str-3.result.now (chars (58 ∷ []) ++ chars c.as_str-2.result.now) 2
      (name_split c.args.name.now c.as_str-3.result.now c.as_str-2.result.now (sym c.is_empty_prefix.ensures.exact ∙ c.if-is_empty_prefix.false) c.as_str-3.ensures.same_chars c.as_str-2.ensures.same_chars)
      (two_pushed c.push-2.new.self.text c.push.new.self.text c.args.parts.now.text (chars (58 ∷ [])) (chars c.as_str-2.result.now) c.push-2.ensures.text_before c.push.ensures.text_before)
      (omega (arith, c.push-2.ensures.more_pieces, c.push.ensures.more_pieces)) (omega arith);
}
