-- Numbers that only grow as digits follow.
use Rattle.std.proofs.Common.{◌≡◌, ℕ, ◌+◌, ◌-◌, ◌*◌, ◌<◌, ◌≤◌, false, cond, List, [], ◌∷◌, sym, ap, ◌∙◌, arith}
use Rattle.std.specs.Prelude.{nat_le}
use Rattle.xml_grammar.specs.Digits.{decimal_digits}
use Rattle.xml_grammar.specs.Rules.{number_of_digits}
use Rattle.node_select.specs.Grammar.{position_of}
use Rattle.node_select.specs.declared.steps.TheConstants.{MAX_POSITION}

not_less : (cs : List ℕ) (n : ℕ) → n ≤ number_of_digits decimal_digits n cs
not_less [] n = omega arith
not_less (c ∷ cs) n = let rest = not_less cs (n * 10 + (c - 48)) in omega arith

le_false : (n m : ℕ) → m < n → nat_le n m ≡ false
le_false n m lt = grind arith

pub too_great : (digits left after : List ℕ) (value c v : ℕ) → left ≡ c ∷ after → number_of_digits decimal_digits value left ≡ number_of_digits decimal_digits 0 digits → v ≡ value * 10 + (c - 48) → MAX_POSITION < v → 0 ≡ position_of digits
too_great digits left after value c v is so_far v_is great =
    let all : number_of_digits decimal_digits 0 digits ≡ number_of_digits decimal_digits (value * 10 + (c - 48)) after = sym so_far ∙ ap (number_of_digits decimal_digits value) is in
    let more = not_less after (value * 10 + (c - 48)) in
    let above : MAX_POSITION < number_of_digits decimal_digits 0 digits = omega arith in
    sym (ap (λ b. cond b (number_of_digits decimal_digits 0 digits) 0) (le_false (number_of_digits decimal_digits 0 digits) MAX_POSITION above))
