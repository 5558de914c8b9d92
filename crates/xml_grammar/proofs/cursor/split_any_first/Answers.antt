use Rattle.std.proofs.Common.{◌≡◌, ℕ, List, ◌++◌, encode_utf8, length, length-append, sym, ap, ◌∙◌, arith}
use Rattle.std.proofs.lemmas.Str.{chars_past_char, len_utf8_bounds, length-encode}
use Rattle.xml_grammar.proofs.CursorLemmas.{none_first}
use Rattle.xml_grammar.proofs.cursor.split_any_first.Goals as goal

pub returns-in-Some : goal.returns-in-Some
returns-in-Some c =
    let text = c.args.text.now in
    let rest = c.as_str.result.now in
    let first = c.in-Some.first in
    let whole : text ≡ encode_utf8 first ++ rest = sym c.chars-all.ensures.rest ∙ c.in-Some.ensures.steps.0 ∙ ap (λ (z : List ℕ). encode_utf8 first ++ z) (sym c.as_str.ensures) in
    record {
      first_and_rest = chars_past_char text rest first c.utf8.text whole;
      rest_shrinks = omega (arith, ap length whole, length-append (encode_utf8 first) rest, length-encode first, (len_utf8_bounds first).0);
      none_is_empty = tt;
    }

pub returns-in-None : goal.returns-in-None
returns-in-None c =
    let none : length c.args.text.now ≡ 0 = ap length (sym c.chars-all.ensures.rest) ∙ c.in-None.ensures.steps.0.0 in
    record { first_and_rest = tt; rest_shrinks = tt; none_is_empty = none_first c.args.text.now none }
