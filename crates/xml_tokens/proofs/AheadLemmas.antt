-- White space that comes next in a text, by its bytes, and words by their first letter.
use Rattle.std.proofs.Common.{◌≡◌, ℕ, ◌≤◌, false, List, [], ◌∷◌, chars, IsUtf8, Err, refl, arith}
use Rattle.std.specs.Prelude.{nat_eq}
use Rattle.std.proofs.lemmas.Bool.{ne_eqb}
use Rattle.xml_grammar.specs.TextReading.{Syntax, first_char_is, read_word}
use Rattle.xml_grammar.proofs.AheadLemmas.{head_by_bytes, turned}
use Rattle.xml_names.specs.Characters.{is_space}
use Rattle.xml_tokens.specs.declared.fault_kind.FaultKind.{FaultKind}

no_space : (c : ℕ) → 128 ≤ c → is_space c ≡ false
no_space c high = rw (ne_eqb c 32 (λ e. omega (arith, e, high)), ne_eqb c 9 (λ e. omega (arith, e, high)), ne_eqb c 13 (λ e. omega (arith, e, high)), ne_eqb c 10 (λ e. omega (arith, e, high))) refl

pub space_by_bytes : (bs : List ℕ) → IsUtf8 bs → first_char_is is_space bs ≡ first_char_is is_space (chars bs)
space_by_bytes bs u = head_by_bytes is_space no_space bs u

pub word_unread : (letter : ℕ) (w text : List ℕ) → first_char_is (λ c. nat_eq c letter) text ≡ false → read_word {Kind = FaultKind} (letter ∷ w) text ≡ Err (Syntax text)
word_unread letter w [] h = refl
word_unread letter w (d ∷ text) h = rw (turned d letter h) refl
