use Rattle.std.proofs.Common.{chars, length, length-append, ap, arith}
use Rattle.xml_grammar.proofs.cursor.count_before.Goals as goal

pub returns : goal.returns
returns c = record {
  exact =
      let front = chars c.text_before.result.now in
      let rest = chars c.args.rest.now in
      omega (arith, c.count.ensures.exact, ap length c.text_before.ensures.parts_of_text, length-append front rest);
}
