use Rattle.std.proofs.Common.{◌≡◌, ℕ, ◌<◌, List, get_or, length, sym, ap, ◌∙◌, arith, eqb-true}
use Rattle.std.proofs.lemmas.Bool.{eqb-false}
use Rattle.std.proofs.lemmas.Grind.{common_steps}
use Rattle.std.proofs.lemmas.Str.{IsCharBoundary-after_ascii}
use Rattle.xml_grammar.proofs.CursorLemmas.{first_at, none_first}
use Rattle.xml_grammar.proofs.cursor.split_first.Goals as goal

pub returns-then-is_empty : goal.returns-then-is_empty
returns-then-is_empty c =
    let text = c.args.text.now in
    let bytes = c.as_bytes-bytes.result.now in
    let none : length text ≡ 0 = first_of (omega (arith, c.as_bytes-bytes.ensures.len, eqb-true (length bytes) 0 (sym c.is_empty.ensures ∙ c.if-is_empty.true)), grind (arith, common_steps)) in
    record { first_and_rest = tt; rest_shrinks = tt; none_is_empty = none_first text none }

pub range_from-requires : goal.range_from-requires
range_from-requires c = λ _.
    let text = c.args.text.now in
    let bytes = c.as_bytes-bytes.result.now in
    let same = c.as_bytes-bytes.ensures.value in
    let some : 0 < length text = first_of (omega (arith, c.as_bytes-bytes.ensures.len, eqb-false (length bytes) 0 (sym c.is_empty.ensures ∙ c.if-is_empty.false)), grind (arith, common_steps)) in
    let low : get_or text 0 0 < 128 = first_of (omega (arith, c.if-first-lt128.true, ap (λ (z : List ℕ). get_or z 0 0) same), grind (arith, common_steps)) in
    IsCharBoundary-after_ascii text 0 c.utf8.text some low

pub returns-then-first-lt128 : goal.returns-then-first-lt128
returns-then-first-lt128 c =
    let text = c.args.text.now in
    let bytes = c.as_bytes-bytes.result.now in
    let same = c.as_bytes-bytes.ensures.value in
    let some : 0 < length text = first_of (omega (arith, c.as_bytes-bytes.ensures.len, eqb-false (length bytes) 0 (sym c.is_empty.ensures ∙ c.if-is_empty.false)), grind (arith, common_steps)) in
    let low : get_or text 0 0 < 128 = first_of (omega (arith, c.if-first-lt128.true, ap (λ (z : List ℕ). get_or z 0 0) same), grind (arith, common_steps)) in
    record {
      first_and_rest = rw (c.range_from.ensures.value, same) (first_at text some low);
      rest_shrinks = omega (arith, c.range_from.ensures.len);
      none_is_empty = tt;
    }
