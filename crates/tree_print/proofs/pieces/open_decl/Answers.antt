use Rattle.std.proofs.Common.{[], ◌∷◌, ◌+◌, ◌++◌, chars, codes, sym, ◌∙◌, arith}
use Rattle.xml_names.specs.Markup.{byte_len, print_decl, quoted_value}
use Rattle.tree_print.specs.inner.Parts.{decl_pieces, text_pieces}
use Rattle.tree_print.proofs.PieceLemmas.{decl_bare, decl_split, opens_by, two_pushed}
use Rattle.tree_print.proofs.pieces.open_decl.Goals as goal

pub returns-then-is_empty_prefix : goal.returns-then-is_empty_prefix
returns-then-is_empty_prefix c = record {
  opens =
      let d = c.args.decl.now in
      opens_by (print_decl d) (decl_pieces d) c.args.parts.now c.push_quoted_value.new.parts (codes " xmlns") (61 ∷ quoted_value d.uri) (2 + text_pieces (byte_len d.uri))
      (decl_bare d (sym c.is_empty_prefix.ensures.exact ∙ c.if-is_empty_prefix.true)) c.push_quoted_value.ensures.text_before c.push_quoted_value.ensures.more_pieces (omega arith);
}

pub returns : goal.returns
returns c = record {
  opens =
      let d = c.args.decl.now in
      opens_by (print_decl d) (decl_pieces d) c.args.parts.now c.push.new.self (codes " xmlns:") (chars c.as_str.result.now ++ (61 ∷ quoted_value d.uri)) (3 + text_pieces (byte_len d.uri))
      (decl_split d c.as_str.result.now (sym c.is_empty_prefix.ensures.exact ∙ c.if-is_empty_prefix.false) c.as_str.ensures.same_chars)
      (two_pushed c.push.new.self.text c.push_quoted_value.new.parts.text c.args.parts.now.text (chars c.as_str.result.now) (61 ∷ quoted_value d.uri) c.push.ensures.text_before c.push_quoted_value.ensures.text_before)
      (omega (arith, c.push.ensures.more_pieces, c.push_quoted_value.ensures.more_pieces)) (omega arith);
}
