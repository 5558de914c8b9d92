use Rattle.std.proofs.Common.{string_bytes, rules}
use Rattle.xml_tree.proofs.PathLetters.{printed}
use Rattle.xml_tree.proofs.path_texts.print_path.Goals as goal

pub returns : goal.returns
returns c = record { ok = printed c.args.path.now c.numbers-number-items.result.now (string_bytes c.loop-number.text) c.own.result c.loop-number.number-index c.numbers-number-items.ensures.exact (λ k lt. search rules) c.loop-number-test.false c.loop-number.invariant c.own.ensures.exact }
