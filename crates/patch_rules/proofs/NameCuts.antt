-- A QName cut one character after another is the QName of its text.
use Rattle.std.proofs.Common.{◌≡◌, ℕ, ◌==◌, Bool, true, false, not, cond, List, [], ◌∷◌, ◌++◌, sym, ap, ◌∙◌, append_assoc, append-nil}
use Rattle.xml_grammar.specs.TextReading.{take_while, drop_while}
use Rattle.xml_tokens.specs.Tokens.{is_different_char}
use Rattle.patch_rules.specs.PatchOperations.{name_of_parts, parse_qname, prefixed_name}
use Rattle.patch_rules.specs.inner.QNames.{cut_qname_from}

onto_is : (cs seen : List ℕ) → cut_qname_from seen cs ≡ name_of_parts (seen ++ take_while (is_different_char 58) cs) (drop_while (is_different_char 58) cs)
onto_is [] seen = ap (λ p. name_of_parts p []) (sym (append-nil seen))
onto_is (c ∷ cs) seen = by (c == 58) (onto_is cs (seen ++ c ∷ []))
  where
    by : (b : Bool) → cut_qname_from (seen ++ c ∷ []) cs ≡ name_of_parts ((seen ++ c ∷ []) ++ take_while (is_different_char 58) cs) (drop_while (is_different_char 58) cs)
        → cond b (prefixed_name seen cs) (cut_qname_from (seen ++ c ∷ []) cs) ≡ name_of_parts (seen ++ cond (not b) (c ∷ take_while (is_different_char 58) cs) []) (cond (not b) (drop_while (is_different_char 58) cs) (c ∷ cs))
    by true h = ap (λ p. prefixed_name p cs) (sym (append-nil seen))
    by false h = h ∙ ap (λ p. name_of_parts p (drop_while (is_different_char 58) cs)) (append_assoc seen (c ∷ []) (take_while (is_different_char 58) cs))

pub cut_from_front : (text : List ℕ) → cut_qname_from [] text ≡ parse_qname text
cut_from_front text = onto_is text []
