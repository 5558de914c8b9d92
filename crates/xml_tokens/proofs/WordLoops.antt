-- A loop over the letters of a word, which are compared one by one with a text.
use Rattle.std.proofs.Common.{◌≡◌, ℕ, suc, ◌+◌, ◌<◌, ◌≤◌, Bool, true, false, List, [], ◌∷◌, ◌++◌, length, take, drop, get_or, Result, Ok, Err, refl, sym, ap, ◌∙◌, append_assoc, eq-eqb, add-one}
use Rattle.std.specs.Prelude.{nat_eq}
use Rattle.std.specs.Char.{to_ascii_lowercase}
use Rattle.std.proofs.Math.Seq.{drop-cons}
use Rattle.std.proofs.lemmas.List.{drop_all, take_all, take_more}
use Rattle.xml_grammar.specs.TextReading.{Stop, Syntax, starts_with_word, read_word}
use Rattle.xml_tokens.specs.declared.fault_kind.FaultKind.{FaultKind}
use Rattle.xml_tokens.specs.Values.{equals_ignoring_case}

module _ (word : List ℕ) (i c : ℕ) (within : i < length word) (at : c ≡ get_or word i c) where
  left_at : drop i word ≡ c ∷ drop (i + 1) word
  left_at =
      let g : drop (suc i) word ≡ drop (i + 1) word = rw add-one refl in
      drop-cons word i c within ∙ ap (λ (z : ℕ). z ∷ drop (suc i) word) (sym at) ∙ ap (λ (z : List ℕ). c ∷ z) g

  module _ (text after : List ℕ) (d : ℕ) (is : text ≡ d ∷ after) where
    pub word_more : (total : Result (Unit {0} × List ℕ) (Stop FaultKind)) → c ≡ d → total ≡ read_word (drop i word) text → total ≡ read_word (drop (i + 1) word) after
    word_more total same so_far =
        so_far ∙ ap (λ (z : List ℕ). read_word z text) left_at ∙ ap (read_word (c ∷ drop (i + 1) word)) is ∙ rw (eq-eqb c d same) refl

    pub word_stops : (total : Result (Unit {0} × List ℕ) (Stop FaultKind)) → nat_eq c d ≡ false → total ≡ read_word (drop i word) text → total ≡ Err (Syntax text)
    word_stops total other so_far =
        so_far ∙ ap (λ (z : List ℕ). read_word z text) left_at ∙ ap (read_word (c ∷ drop (i + 1) word)) is ∙ rw other (ap (λ (z : List ℕ). Err (Syntax z)) (sym is))

    pub starts_more : (total : Bool) → c ≡ d → total ≡ starts_with_word (drop i word) text → total ≡ starts_with_word (drop (i + 1) word) after
    starts_more total same so_far = so_far ∙ ap (λ (z : List ℕ). starts_with_word z text) left_at ∙ ap (starts_with_word (c ∷ drop (i + 1) word)) is ∙ rw (eq-eqb c d same) refl

    pub starts_stops : (total : Bool) → nat_eq c d ≡ false → total ≡ starts_with_word (drop i word) text → total ≡ false
    starts_stops total other so_far = so_far ∙ ap (λ (z : List ℕ). starts_with_word z text) left_at ∙ ap (starts_with_word (c ∷ drop (i + 1) word)) is ∙ rw other refl

    pub letters_more : (total : Bool) → nat_eq (to_ascii_lowercase d) c ≡ true → total ≡ equals_ignoring_case text (drop i word) → total ≡ equals_ignoring_case after (drop (i + 1) word)
    letters_more total same so_far = so_far ∙ ap (equals_ignoring_case text) left_at ∙ ap (λ (z : List ℕ). equals_ignoring_case z (c ∷ drop (i + 1) word)) is ∙ rw same refl

    pub letters_stop : (total : Bool) → nat_eq (to_ascii_lowercase d) c ≡ false → total ≡ equals_ignoring_case text (drop i word) → total ≡ false
    letters_stop total other so_far = so_far ∙ ap (equals_ignoring_case text) left_at ∙ ap (λ (z : List ℕ). equals_ignoring_case z (c ∷ drop (i + 1) word)) is ∙ rw other refl

  module _ (text : List ℕ) (none : text ≡ []) where
    pub word_cut : (total : Result (Unit {0} × List ℕ) (Stop FaultKind)) → total ≡ read_word (drop i word) text → total ≡ Err (Syntax text)
    word_cut total so_far = so_far ∙ ap (λ (z : List ℕ). read_word z text) left_at ∙ ap (read_word (c ∷ drop (i + 1) word)) none ∙ ap (λ (z : List ℕ). Err (Syntax z)) (sym none)

    pub starts_cut : (total : Bool) → total ≡ starts_with_word (drop i word) text → total ≡ false
    starts_cut total so_far = so_far ∙ ap (λ (z : List ℕ). starts_with_word z text) left_at ∙ ap (starts_with_word (c ∷ drop (i + 1) word)) none

    pub letters_cut : (total : Bool) → total ≡ equals_ignoring_case text (drop i word) → total ≡ false
    letters_cut total so_far = so_far ∙ ap (equals_ignoring_case text) left_at ∙ ap (λ (z : List ℕ). equals_ignoring_case z (c ∷ drop (i + 1) word)) none

-- after the last letter
module _ (word : List ℕ) (i : ℕ) (over : length word ≤ i) where
  pub word_over : (text : List ℕ) (total : Result (Unit {0} × List ℕ) (Stop FaultKind)) → total ≡ read_word (drop i word) text → total ≡ Ok (tt, text)
  word_over text total so_far = so_far ∙ ap (λ (z : List ℕ). read_word z text) (drop_all i word over)

  pub letters_over : (text : List ℕ) (total : Bool) → text ≡ [] → total ≡ equals_ignoring_case text (drop i word) → true ≡ total
  letters_over text total none so_far = sym (so_far ∙ ap (equals_ignoring_case text) (drop_all i word over) ∙ ap (λ (z : List ℕ). equals_ignoring_case z []) none)

  pub letters_left : (text after : List ℕ) (d : ℕ) (total : Bool) → text ≡ d ∷ after → total ≡ equals_ignoring_case text (drop i word) → false ≡ total
  letters_left text after d total is so_far = sym (so_far ∙ ap (equals_ignoring_case text) (drop_all i word over) ∙ ap (λ (z : List ℕ). equals_ignoring_case z []) is)

-- the part of the text that was passed equals the part of the word that was passed
pub passed_more : (word text rest after : List ℕ) (i c d : ℕ) → i < length word → c ≡ get_or word i c → rest ≡ d ∷ after → c ≡ d → text ≡ take i word ++ rest → text ≡ take (i + 1) word ++ after
passed_more word text rest after i c d within at is same so_far =
    let one : take (i + 1) word ≡ take i word ++ d ∷ [] = take_more word i c within ∙ ap (λ (z : ℕ). take i word ++ z ∷ []) (sym at ∙ same) in
    so_far ∙ ap (λ (z : List ℕ). take i word ++ z) is ∙ sym (append_assoc (take i word) (d ∷ []) after) ∙ ap (λ (z : List ℕ). z ++ after) (sym one)

pub passed_over : (word text rest : List ℕ) (i : ℕ) → length word ≤ i → text ≡ take i word ++ rest → text ≡ word ++ rest
passed_over word text rest i over so_far = so_far ∙ ap (λ (z : List ℕ). z ++ rest) (take_all i word over)
