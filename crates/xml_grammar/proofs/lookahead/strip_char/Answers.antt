use Rattle.std.proofs.Common.{◌≡◌, ℕ, true, List, ◌∷◌, chars, sym, ap, ◌∙◌}
use Rattle.std.specs.Prelude.{nat_eq}
use Rattle.xml_grammar.specs.TextReading.{first_char_is}
use Rattle.xml_grammar.proofs.AheadLemmas.{letter_by_bytes, cut_behind, letter_first}
use Rattle.xml_grammar.proofs.lookahead.strip_char.Goals as goal

pub returns-then-not-starts_with_letter : goal.returns-then-not-starts_with_letter
returns-then-not-starts_with_letter c =
    let first = first_char_is (λ d. nat_eq d c.args.letter) in
    record {
      letter_and_rest = tt;
      none_not_next = sym (letter_by_bytes c.args.letter c.args.text.now c.requires c.utf8.text) ∙ ap first (sym c.as_bytes.ensures.value) ∙ sym c.if-not-starts_with_letter.ensures.exact;
    }

pub range_from-requires : goal.range_from-requires
range_from-requires c = λ _.
    let first = first_char_is (λ d. nat_eq d c.args.letter) in
    let is : first c.args.text.now ≡ true = ap first (sym c.as_bytes.ensures.value) ∙ sym c.if-not-starts_with_letter.ensures.exact in
    cut_behind c.args.letter c.args.text.now c.requires is c.utf8.text

pub returns : goal.returns
returns c =
    let first = first_char_is (λ d. nat_eq d c.args.letter) in
    let is : first c.args.text.now ≡ true = ap first (sym c.as_bytes.ensures.value) ∙ sym c.if-not-starts_with_letter.ensures.exact in
    record {
      letter_and_rest = letter_first c.args.letter c.args.text.now c.requires is ∙ ap (λ (z : List ℕ). c.args.letter ∷ chars z) (sym c.range_from.ensures.value);
      none_not_next = tt;
    }
