-- Names and references: what is left after them.
use Rattle.std.proofs.Common.{ℕ, List, [], ◌∷◌}
use Rattle.std.specs.Prelude.{◌==◌}
use Rattle.xml_grammar.specs.TextReading.{first_char_is, starts_with_word}
use Rattle.xml_tokens.specs.readers.Literals.{ampersand, semicolon, hash, letter_x, amp, lt, gt, quot, apos}
use Rattle.xml_grammar.specs.Digits.{decimal_digits, hexadecimal_digits}
use Rattle.xml_names.specs.Characters.{is_char, is_name_start, is_name_char}
use Rattle.xml_tokens.specs.Tokens.{max_char}
use Rattle.xml_tokens.specs.Values.{qname_of}
use Rattle.xml_tokens.specs.readers.Tokens.{colon_follows, read_name, read_qname, read_predefined_entity, read_entity, read_char_ref, read_reference}
use Rattle.xml_tokens.proofs.Shrinks.{Shrinks, shrinks_one, shrinks_word, shrinks_run, shrinks_number, shrinks_empty, shrinks_sequence, shrinks_valued, shrinks_either}

shrinks_name : Shrinks read_name
shrinks_name = shrinks_valued (λ x. x.0 ∷ x.1) (shrinks_sequence (shrinks_one is_name_start) (λ _. shrinks_run is_name_char))

pub shrinks_qname : Shrinks read_qname
shrinks_qname = shrinks_valued qname_of (shrinks_sequence shrinks_name (λ _. shrinks_either colon_follows (shrinks_valued _ (shrinks_valued (λ x. x.1) (shrinks_sequence (shrinks_word (58 ∷ [])) (λ _. shrinks_name)))) (shrinks_empty _)))

shrinks_stands : (c : ℕ) (w : List ℕ) → Shrinks (read_predefined_entity c w)
shrinks_stands c w = shrinks_valued (λ _. c) (shrinks_word w)

shrinks_entity : Shrinks read_entity
shrinks_entity =
    shrinks_either (first_char_is (λ c. c == 108)) (shrinks_stands 60 lt)
    (shrinks_either (first_char_is (λ c. c == 103)) (shrinks_stands 62 gt)
    (shrinks_either (first_char_is (λ c. c == 113)) (shrinks_stands 34 quot)
    (shrinks_either (starts_with_word (97 ∷ 112 ∷ [])) (shrinks_stands 39 apos) (shrinks_stands 38 amp))))

shrinks_numbered : Shrinks read_char_ref
shrinks_numbered = shrinks_valued (λ x. x.1) (shrinks_sequence (shrinks_word hash) (λ _.
    shrinks_either (first_char_is (λ c. c == 120)) (shrinks_valued (λ x. x.1) (shrinks_sequence (shrinks_word letter_x) (λ _. shrinks_number hexadecimal_digits max_char is_char))) (shrinks_number decimal_digits max_char is_char)))

pub shrinks_reference : Shrinks read_reference
shrinks_reference = shrinks_valued (λ x. x.1) (shrinks_sequence (shrinks_word ampersand) (λ _.
    shrinks_valued (λ x. x.0) (shrinks_sequence (shrinks_either (first_char_is (λ c. c == 35)) shrinks_numbered shrinks_entity) (λ _. shrinks_word semicolon))))
