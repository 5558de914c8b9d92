use Rattle.std.proofs.Common.{ap, arith, length}
use Rattle.tree_print.proofs.PieceLemmas.{set_pushed}
use Rattle.tree_print.proofs.pieces.push_quoted_value.Goals as goal

pub returns-clause-text_before : goal.returns-clause-text_before
returns-clause-text_before c = set_pushed c.args.parts.now.text c.push.new.self.text c.push-2.new.self.text c.push-3.new.self.text c.as_str.result.now c.args.value.now c.as_str.ensures.same_chars c.push.ensures.text_before c.push-2.ensures.text_before c.push-3.ensures.text_before

pub returns-clause-more_pieces : goal.returns-clause-more_pieces
returns-clause-more_pieces c = omega (arith, c.push-3.ensures.more_pieces, c.push-2.ensures.more_pieces, c.push.ensures.more_pieces, ap length c.as_str.ensures.utf8_bytes)

pub returns-clause-three_more : goal.returns-clause-three_more
returns-clause-three_more c = omega (arith, c.push-3.ensures.one_more, c.push-2.ensures.one_more, c.push.ensures.one_more)
