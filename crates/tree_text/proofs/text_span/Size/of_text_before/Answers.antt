use Rattle.std.proofs.Common.{chars, length, length-append, ap, arith}
use Rattle.tree_text.proofs.text_span.Size.of_text_before.Goals as goal

pub returns : goal.returns
returns c = record {
  exact =
      let front = chars c.text_before.result.now in
      omega (arith, ap length c.text_before.ensures.parts_of_text, length-append front (chars c.args.rest.now));
}
