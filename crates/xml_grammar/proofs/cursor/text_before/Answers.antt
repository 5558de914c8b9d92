use Rattle.std.proofs.Common.{◌≡◌, ◌-◌, ◌++◌, ℕ, List, length, take, chars, rules, sym, ap, ◌∙◌}
use Rattle.xml_grammar.proofs.CursorLemmas.{first_ones, end_shorter, end_boundary, end_whole}
use Rattle.xml_grammar.proofs.cursor.text_before.Goals as goal

pub overflow_sub-len : goal.overflow_sub-len
overflow_sub-len c = end_shorter c.args.text.now c.args.rest.now c.utf8.text c.utf8.rest c.requires

pub range-requires-clause-end_boundary : goal.range-requires-clause-end_boundary
range-requires-clause-end_boundary c = end_boundary c.args.text.now c.args.rest.now c.utf8.text c.utf8.rest c.requires

pub returns : goal.returns
returns c = record {
  parts_of_text =
      let text = c.args.text.now in
      let rest = c.args.rest.now in
      let cut : c.range.result.now ≡ take (length text - length rest) text = search rules in
      end_whole text rest c.utf8.text c.utf8.rest c.requires ∙ ap (λ (z : List ℕ). chars z ++ chars rest) (sym cut);
  front_of_text =
      let text = c.args.text.now in
      let cut : c.range.result.now ≡ take (length text - length c.args.rest.now) text = search rules in
      first_ones c.range.result.now text (length text - length c.args.rest.now) cut;
}
